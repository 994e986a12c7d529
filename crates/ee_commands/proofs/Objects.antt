-- Arrays of documents grow by an item at a time.
use Rattle.std.proofs.Common.{◌≡◌, ◌∙◌, ◌+◌, ◌<◌, ℕ, zero, suc, List, [], ◌∷◌, ◌++◌, length, get_or, take, sym, ap, arith, add-one, append_assoc, rules}
use Rattle.std.specs.Prelude.{slice_index}
use Rattle.std.proofs.lemmas.Grind.{common_steps}
use Rattle.std.proofs.lemmas.List.{append-nil, length-take-le, take_more}
use Rattle.ee_flash.specs.Device.{Device, IsFormed, page_at}
use Rattle.ee_flash.specs.Size.{page_count}
use Rattle.ee_flash.specs.declared.word.Word.{Word}
use Rattle.ee_pages.specs.Page.{state_of_words}
use Rattle.ee_pages.specs.declared.state.State as page
use Rattle.ee_plan.specs.declared.planner.demand.Demand.{Demand}
use Rattle.ee_commands.specs.Json.{item, count_object, count_items, size_object, size_items, state_object, state_items}

-- ---- the states of pages

states_push : (start : ℕ) (pages : List (List Word)) (n number : ℕ) → number ≡ start + n
    → n < length pages
    → state_items start (take (suc n) pages)
    ≡ state_items start (take n pages)
    ++ item (state_object number (state_of_words (get_or pages n [])))
states_push start [] n number e within = absurd (omega arith)
states_push start (words ∷ pages) zero number e within = search (rules, append-nil)
states_push start (words ∷ pages) (suc n) number e within =
    grind (arith, common_steps, (states_push (start + 1) pages n number (omega arith) (omega arith)))

-- one page more
pub objects_grow : (device : Device) (n : ℕ) (old out new : List ℕ) (state : page.State)
    → IsFormed device → n < page_count device.size
    → out ≡ old ++ state_items 0 (take n device.image)
    → state ≡ state_of_words (page_at device n)
    → new ≡ out ++ item (state_object n state)
    → new ≡ old ++ state_items 0 (take (n + 1) device.image)
objects_grow device n old out new state formed within so_far is written =
    let so : List ℕ = state_items 0 (take n device.image) in
    let one : List ℕ = item (state_object n state) in
    let grown : state_items 0 (take (n + 1) device.image) ≡ so ++ one =
    rw add-one (states_push 0 device.image n n (omega arith) (omega (arith, formed.image_length)))
    ∙ ap (λ s. so ++ item (state_object n s)) (sym is) in
    written ∙ ap (λ l. l ++ one) so_far ∙ append_assoc old so one ∙ ap (λ l. old ++ l) (sym grown)

-- ---- wear

counts_push : (start : ℕ) (counts : List ℕ) (n number : ℕ) → number ≡ start + n → n < length counts
    → count_items start (take (suc n) counts)
    ≡ count_items start (take n counts)
    ++ item (count_object number (slice_index counts n))
counts_push start [] n number e within = absurd (omega arith)
counts_push start (count ∷ counts) zero number e within = search (rules, append-nil)
counts_push start (count ∷ counts) (suc n) number e within =
    grind (arith, common_steps, (counts_push (start + 1) counts n number (omega arith) (omega arith)))

-- one page more
pub wear_grows : (counts : List ℕ) (n : ℕ) (count : ℕ) (old out new : List ℕ) → n < length counts
    → out ≡ old ++ count_items 0 (take n counts) → count ≡ slice_index counts n
    → new ≡ out ++ item (count_object n count)
    → new ≡ old ++ count_items 0 (take (n + 1) counts)
wear_grows counts n count old out new within so_far is written =
    let so : List ℕ = count_items 0 (take n counts) in
    let one : List ℕ = item (count_object n count) in
    let grown : count_items 0 (take (n + 1) counts) ≡ so ++ one =
    rw add-one (counts_push 0 counts n n (omega arith) within)
    ∙ ap (λ k. so ++ item (count_object n k)) (sym is) in
    written ∙ ap (λ l. l ++ one) so_far ∙ append_assoc old so one ∙ ap (λ l. old ++ l) (sym grown)

-- ---- sizes

sizes_append : (words cycles changes pages next : ℕ) (demands : List Demand) (demand : Demand)
    → next ≡ pages + length demands
    → size_items words cycles changes pages (demands ++ demand ∷ [])
    ≡ size_items words cycles changes pages demands
    ++ item (size_object words cycles changes next demand)
sizes_append words cycles changes pages next [] demand is = search (rules, append-nil)
sizes_append words cycles changes pages next (first ∷ demands) demand is =
    grind (
      arith,
      common_steps,
      (sizes_append words cycles changes (pages + 1) next demands demand (omega arith)),
    )

-- one size more
pub size_items_grow : (words cycles changes pages n : ℕ) (demands : List Demand) (d : Demand)
    (old new : List ℕ)
    → n < length demands → pages ≡ n
    → old ≡ size_items words cycles changes 1 (take n demands)
    → new ≡ old ++ item (size_object words cycles changes (pages + 1) (get_or demands n d))
    → new ≡ size_items words cycles changes 1 (take (n + 1) demands)
size_items_grow words cycles changes pages n demands d old new within counted so_far written =
    search (rules, length-take-le, sizes_append, take_more)
