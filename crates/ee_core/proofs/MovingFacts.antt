-- What calls in the other set leave together.
use Rattle.ee_core.proofs.Words.{rules, ◌≡◌, ◌⊎◌, inl, inr, ◌≤◌, ◌<◌, ℕ, ◌+◌, true, List, [], ap, ◌∙◌, arith, All, All-from_get_or, mul-le}
use Rattle.ee_core.proofs.Sets.{Device, IsFormed, page_at, slot_count, KeepsLiveSet, KeepsSide, IsLayout, IsLive, Change, changed_by, live_in, meaning, is_blank, first_page, other, set_of, slots_of, Layout, Side, kept_side_is_live, length-set_of, other_twice}
use Rattle.ee_core.proofs.Calls.{HasMoved, Stays}
use Rattle.ee_core.specs.CallSteps.{IsBehind}
use Rattle.ee_core.specs.declared.copying.Place.{Place}
use Rattle.std.proofs.Common.{sym, subst}
use Rattle.ee_core.proofs.PendingPages.{as_many_not_blank}
use Rattle.ee_core.proofs.SetPages.{page_of_set}

pub keeps_same : (device : Device) (layout : Layout) → IsLayout device layout
    → KeepsLiveSet device device layout.side layout.generation
keeps_same _ _ found = search rules

pub keeps_both : (first second third : Device) (side : Side) (generation : ℕ)
    → KeepsLiveSet first second side generation → KeepsLiveSet second third side generation
    → KeepsLiveSet first third side generation
keeps_both _ _ _ _ _ one two = search rules

pub layout_kept : (old new : Device) (layout : Layout) → IsLayout old layout
    → KeepsLiveSet old new layout.side layout.generation → IsLayout new layout
layout_kept _ _ _ found keeps = search rules

pub side_map : (old new : Device) (side : Side) → KeepsSide old new side → (address : ℕ)
    → meaning (slots_of (set_of side new)) address ≡ meaning (slots_of (set_of side old)) address
side_map _ _ _ keeps address = search rules

pub few_slots : (device : Device) → IsFormed device → slot_count device.size ≤ 32512
few_slots device formed = search (rules, mul-le)

pub all_blank : (side : Side) (device : Device) → IsFormed device
    → ((page : ℕ) → first_page device.size side ≤ page
    → page < first_page device.size side + device.size.pages
    → is_blank (page_at device page) ≡ true)
    → All (λ page. is_blank page ≡ true) (set_of side device)
all_blank side device formed each = All-from_get_or (λ page. is_blank page ≡ true) _ [] (λ k h.
    let within : k < device.size.pages = omega (arith, length-set_of side _ formed) in
    ap is_blank (page_of_set _ _ k within)
    ∙ each (first_page device.size side + k) (omega arith) (omega arith))

pub moved_stays : (old moved new : Device) (side : Side) (generation : ℕ) (changes : List Change)
    → HasMoved old moved side generation changes → Stays moved new (other side) (generation + 1)
    → HasMoved old new side generation changes
moved_stays _ _ _ _ _ _ has stays = search (rules, as_many_not_blank, other_twice)

-- the layout of the set that the map moved to, as the code says it
pub layout_moved : (old new : Device) (layout : Layout) (changes : List Change) (side : Side)
    (place : Place)
    → HasMoved old new layout.side layout.generation changes → side ≡ other layout.side
    → place.slot ≡ live_in (changed_by changes (meaning (slots_of (set_of layout.side old))))
    → IsBehind new.size (other layout.side) place
    → IsLayout new record {
      side = side;
      generation = layout.generation + 1;
      fill = place.slot;
      current = place.page;
    }
layout_moved old new layout changes side place moved side_is count_is behind =
    let found : IsLayout new record {
      side = other layout.side;
      generation = layout.generation + 1;
      fill = place.slot;
      current = place.page;
    } =
    record { live = moved.live; fill = count_is ∙ sym moved.fill_is; current = behind.page } in
    subst
    (λ (set : Side). IsLayout new record {
      side = set;
      generation = layout.generation + 1;
      fill = place.slot;
      current = place.page;
    }) (sym side_is) found

-- and of one to which nothing moved
pub layout_emptied : (old new : Device) (layout : Layout) (changes : List Change) (side : Side)
    (first : ℕ)
    → HasMoved old new layout.side layout.generation changes → side ≡ other layout.side
    → 0 ≡ live_in (changed_by changes (meaning (slots_of (set_of layout.side old))))
    → first ≡ first_page new.size (other layout.side)
    → IsLayout new
    record { side = side; generation = layout.generation + 1; fill = 0; current = first }
layout_emptied _ new layout _ side first moved side_is none first_is = search rules

-- where the set that is left was live, it is so still, or the map has moved
pub live_or_moved : (old new : Device) (side : Side) (generation : ℕ) (changes : List Change)
    → IsLive old side generation → KeepsSide old new side ⊎ HasMoved old new side generation changes
    → KeepsLiveSet old new side generation ⊎ HasMoved old new side generation changes
live_or_moved _ _ _ _ _ live (inl keeps) = inl (kept_side_is_live _ _ _ _ live keeps)
live_or_moved _ _ _ _ _ _ (inr moved) = inr moved
