-- Why the device that a mirror means is formed, and fresh.
use Rattle.std.proofs.Common.{◌≡◌, ℕ, ◌*◌, ◌<◌, List, length, get_or, refl, sym, ◌∙◌, arith, rules}
use Rattle.std.specs.List.{All}
use Rattle.std.proofs.lemmas.Bool.{cases_eq}
use Rattle.std.proofs.lemmas.Bool.Decides.{nat_tests}
use Rattle.std.proofs.lemmas.List.{get_or_default}
use Rattle.std.proofs.lemmas.Option.{none-some}
use Rattle.ee_flash.specs.Device.{IsBelowAllOnes}
use Rattle.ee_flash.specs.Formed.{below_all_ones, length-pages_of, page_lengths}
use Rattle.ee_flash.specs.Size.{Size, page_count}
use Rattle.ee_flash.specs.declared.word.Word.TheVariants.{Erased}
use Rattle.ee_web.specs.Draft.{IsFresh}
use Rattle.ee_web.specs.Mirror.{IsMirror, cells_of, word_of_number, mirrored_device}
use Rattle.ee_web.proofs.DraftSteps.{decoded_at}
use Rattle.ee_web.proofs.PlayedSteps.{length-cells_of}

decoded_below : (number flag : ℕ) → number < 18446744073709551616
    → IsBelowAllOnes (word_of_number number flag)
decoded_below number flag fits value is = search (rules, cases_eq, nat_tests)

pub cells_below : (words flags : List ℕ) → length flags ≡ length words
    → ((i : ℕ) → get_or words i 0 < 18446744073709551616)
    → All IsBelowAllOnes (cells_of words flags)
cells_below words flags as_many fits k none h =
    let below : k < length words = omega (arith, length-cells_of words flags as_many) in
    rw (
      get_or_default (cells_of words flags) k none Erased h,
      decoded_at words flags k below (omega arith),
    )
    (decoded_below (get_or words k 0) (get_or flags k 0) (fits k))

pub fresh_device : (size : Size) (words flags wears : List ℕ) → IsMirror size words flags wears
    → ((i : ℕ) → get_or words i 0 < 18446744073709551616)
    → ((i : ℕ) → get_or wears i 0 < 18446744073709551616)
    → IsFresh (mirrored_device size words flags wears)
fresh_device size words flags wears mirror words_fit wears_fit =
    let as_many : length flags ≡ length words = mirror.flags_length ∙ sym mirror.words_length in
    let filled : length (cells_of words flags) ≡ page_count size * size.words =
    length-cells_of words flags as_many ∙ mirror.words_length in
    record {
      formed = record {
        within_limits = mirror.within_limits;
        image_length = length-pages_of size (cells_of words flags);
        page_lengths = page_lengths size (cells_of words flags) filled;
        below_all_ones =
            below_all_ones size (cells_of words flags) (cells_below words flags as_many words_fit);
        wear_length = mirror.wears_length;
        wear_fits =
            λ k none h. rw (get_or_default wears k none 0 h) (let fit = wears_fit k in omega arith);
        cuts_fit = omega arith;
        cuts_left_fit = λ left is. absurd (none-some left is);
      };
      on = refl;
      never_cut = refl;
      any_cuts = refl;
      no_fuse_known = refl;
    }
