-- The commit of a set where the other one is not committed.
use Rattle.std.proofs.Common.{rules, ◌≡◌, ℕ, ◌<◌, Some, None, List, length, get_or, [], refl, ap, ◌∙◌, arith}
use Rattle.ee_flash.specs.Device.{Device}
use Rattle.ee_flash.specs.Laws.{DiffersInPage, IsStep}
use Rattle.ee_flash.specs.Step.{device_after}
use Rattle.ee_flash.specs.declared.word.Word.{Word}
use Rattle.ee_flash.specs.declared.word.Word.TheVariants.{Held}
use Rattle.ee_flash.proofs.Public.{length-page_at, step_changes_one_page, step_keeps_formed}
use Rattle.ee_codec.proofs.Public.{receive_of-receive}
use Rattle.ee_codec.specs.Reading.{receive_of}
use Rattle.ee_codec.specs.Words.{mark_number, IsGeneration}
use Rattle.ee_pages.specs.Filling.{IsCommitted, IsFilling}
use Rattle.ee_pages.specs.Legal.{is_allowed_at}
use Rattle.ee_pages.specs.Page.{marking}
use Rattle.ee_pages.specs.Sets.{committed_generation, first_page, live_of, other, set_of, slots_of}
use Rattle.ee_pages.specs.declared.side.Side.{Side}
use Rattle.ee_pages.specs.declared.side.Side.TheVariants.{First, Second}
use Rattle.ee_pages.specs.declared.state.Mark.TheVariants.{Active}
use Rattle.ee_pages.proofs.Commits.{first_in_set, mark_allowed, marked, marked_commits, set_marked}
use Rattle.ee_pages.proofs.OtherSet.{same_set}
use Rattle.ee_pages.proofs.OwnSet.{header_word, page_of_set}
use Rattle.ee_pages.proofs.Slots.{length-set_of}

pub other_twice : (side : Side) → other (other side) ≡ side
other_twice First = refl
other_twice Second = refl

-- a set that alone is committed is live
only_is_live : (side : Side) (device : Device) (generation : ℕ)
    → committed_generation (set_of side device) ≡ Some generation
    → committed_generation (set_of (other side) device) ≡ None
    → live_of device ≡ Some (side, generation)
only_is_live First device generation here none = rw (here, none) refl
only_is_live Second device generation here none = rw (here, none) refl

module _ (old new : Device) (side : Side) (generation count : ℕ)
    (filling : IsFilling old side generation count) (some : 0 < generation)
    (below : generation < 4294967295)
    (alone : committed_generation (set_of (other side) old) ≡ None)
    (taken : IsStep (marking (first_page old.size side) Active) old new) where
  differs : DiffersInPage (first_page old.size side) old new
  differs = step_changes_one_page (marking (first_page old.size side) Active) old new taken

  pub other_set_stays : set_of (other side) new ≡ set_of (other side) old
  other_set_stays = search (rules, other_twice, first_in_set, same_set, differs)

  some_pages : 0 < length (set_of side old)
  some_pages =
      omega (arith, length-set_of side old taken.formed, taken.formed.within_limits.some_pages)

  long : 1 < length (get_or (set_of side old) 0 [])
  long = search (rules, page_of_set, length-page_at)

  pub first_commits : new.image
      ≡ (device_after (marking (first_page old.size side) Active) old).image
      → IsCommitted old new side generation
  first_commits is =
      let pages = set_marked old new side taken.formed differs (Held mark_number) is in
      let after : committed_generation (set_of side new) ≡ Some generation =
      ap committed_generation pages
      ∙ marked_commits (set_of side old) (Held mark_number) some_pages long
      ∙ ap receive_of filling.receives ∙ receive_of-receive generation (some, below) in
      record {
        live = record {
          formed = step_keeps_formed (marking (first_page old.size side) Active) old new taken;
          live = only_is_live side new generation after
              (ap committed_generation other_set_stays ∙ alone);
          allowed = λ page at in_range within.
              let old_page : page < old.size.pages =
              omega (arith, ap (λ size. size.pages) differs.same_size) in
              let old_at : at < old.size.words =
              omega (arith, ap (λ size. size.words) differs.same_size) in
              let fact =
              mark_allowed old.size generation (set_of side old) page at some_pages long
              (filling.allowed page at old_page old_at) in
              ap (λ (all : List (List Word)). is_allowed_at new.size generation all page at) pages
              ∙ ap
              (λ size. is_allowed_at size generation (marked (set_of side old) (Held mark_number))
              page at) differs.same_size
              ∙ fact;
        };
        same_size = differs.same_size;
        same_slots =
            ap slots_of pages ∙ header_word (set_of side old) 0 1 (Held mark_number) (omega arith);
      }

pub first_commit_commits : (old new : Device) (side : Side) (generation count : ℕ)
    → IsFilling old side generation count → IsGeneration generation
    → committed_generation (set_of (other side) old) ≡ None → let step =
    marking (first_page old.size side) Active in IsStep step old new → new ≡ device_after step old
    → IsCommitted old new side generation × (set_of (other side) new ≡ set_of (other side) old)
first_commit_commits old new side generation count filling proper alone taken whole =
    let some : 0 < generation = omega (arith, proper.0) in
    let below : generation < 4294967295 = omega (arith, proper.1) in (
      first_commits old new side generation count filling some below alone taken
          (ap (λ (device : Device). device.image) whole),
      other_set_stays old new side generation count filling some below alone taken,
    )
