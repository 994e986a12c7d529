-- Pairs that are read one by one.
use Rattle.std.proofs.Common.{◌≡◌, ℕ, zero, suc, ◌+◌, ◌*◌, ◌/◌, ◌%◌, ◌<◌, ◌≤◌, List, [], ◌∷◌, ◌++◌, map, length, get_or, take, drop, refl, sym, ap, ◌∙◌, subst, arith, inl, inr, length-append}
use Rattle.std.specs.Int.{from_le_bytes, to_le_bytes, w64}
use Rattle.std.specs.List.{All}
use Rattle.std.specs.Simd.{first_chunks}
use Rattle.std.proofs.lemmas.Bool.{cases_lt}
use Rattle.std.proofs.lemmas.List.{get_or-map, length-drop, length-map, length-take-le, map_more, take-append-drop, take_all}
use Rattle.std.proofs.lemmas.List.Elements.{All-cons, All-drop, All-from_get_or, All-nil, All-push, All-take}
use Rattle.std.proofs.lemmas.Nat.{le_bytes_8}
use Rattle.std.proofs.Math.Nat.{div-add-mod, mod-lt}
use Rattle.ee_flash.specs.Device.{IsBelowAllOnes, all_ones}
use Rattle.ee_flash.specs.Size.{Size, page_count}
use Rattle.ee_flash.specs.declared.word.Word.{Word}
use Rattle.ee_nor.specs.Formed.{below_all_ones}
use Rattle.ee_nor.specs.Nor.{IsNorNumber}
use Rattle.ee_nor.specs.Pairs.{pair_word}
use Rattle.ee_interface.specs.CommandLine.Form.{dump_length}
use Rattle.ee_shell.specs.Dumps.Pair.{AreBytesOf, IsFirstLowPair, IsHighPair, IsPair, Pair, erased_pair, pair_bytes, sum_at, word_of_pair}
use Rattle.ee_shell.specs.Dumps.Reading.{AreCells}
use Rattle.ee_interface.specs.declared.command_line.form.Form.TheVariants.{Pairs}
use Rattle.ee_shell.proofs.DumpsLemmas.Words.{small_at, value_fits}

-- ---- the pairs of bytes

-- two numbers of eight bytes each
abbrev pub pair_of : List (List ℕ) → Pair
pair_of chunk = record {
  number = from_le_bytes w64 (get_or chunk 0 []);
  check = from_le_bytes w64 (get_or chunk 1 []);
}

abbrev pub IsByte : ℕ → Type 0
IsByte byte = byte < 256

pub eight_again : (bytes : List ℕ) → length bytes ≡ 8 → All IsByte bytes
    → to_le_bytes w64 (from_le_bytes w64 bytes) ≡ bytes
eight_again bytes long small =
    le_bytes_8 bytes (from_le_bytes w64 bytes) long (small_at bytes small) refl

pub number_fits : (bytes : List ℕ) → All IsByte bytes → IsNorNumber (from_le_bytes w64 bytes)
number_fits bytes small = omega (arith, value_fits bytes (small_at bytes small))

-- 16 bytes are those of their pair
pair_again : (dump : List ℕ) → All IsByte dump → 16 ≤ length dump
    → to_le_bytes w64 (from_le_bytes w64 (take 8 dump))
    ++ (to_le_bytes w64 (from_le_bytes w64 (take 8 (drop 8 dump))) ++ drop 8 (drop 8 dump))
    ≡ dump
pair_again dump small long =
    ap
    (λ l. l ++ (to_le_bytes w64 (from_le_bytes w64 (take 8 (drop 8 dump))) ++ drop 8 (drop 8 dump)))
    (eight_again (take 8 dump) (length-take-le 8 dump (omega arith)) (All-take IsByte 8 dump small))
    ∙ ap (λ l. take 8 dump ++ (l ++ drop 8 (drop 8 dump)))
    (eight_again (take 8 (drop 8 dump))
    (length-take-le 8 (drop 8 dump) (omega (arith, length-drop 8 dump)))
    (All-take IsByte 8 (drop 8 dump) (All-drop IsByte 8 dump small)))
    ∙ ap (λ l. take 8 dump ++ l) (take-append-drop 8 (drop 8 dump))
    ∙ take-append-drop 8 dump

pub pairs_spelled : (m k : ℕ) (dump : List ℕ) → k ≡ m + m → All IsByte dump → length dump ≡ 16 * m
    → AreBytesOf dump (map pair_of (first_chunks 2 m (first_chunks 8 k dump)))
pairs_spelled zero k [] even small long = record { fit = All-nil IsPair; bytes_are = refl }
pairs_spelled zero k (byte ∷ bytes) even small long = absurd (omega arith)
pairs_spelled (suc m) zero dump even small long = absurd (omega arith)
pairs_spelled (suc m) (suc zero) dump even small long = absurd (omega arith)
pairs_spelled (suc m) (suc (suc k)) dump even small long =
    let behind : List ℕ = drop 8 (drop 8 dump) in
    let later = All-drop IsByte 8 (drop 8 dump) (All-drop IsByte 8 dump small) in
    let rest =
    pairs_spelled m k behind (omega arith) later
    (omega (arith, length-drop 8 (drop 8 dump), length-drop 8 dump)) in
    let first : Pair = record {
      number = from_le_bytes w64 (take 8 dump);
      check = from_le_bytes w64 (take 8 (drop 8 dump));
    } in
    record {
      fit = All-cons IsPair first (map pair_of (first_chunks 2 m (first_chunks 8 k behind))) (
        number_fits (take 8 dump) (All-take IsByte 8 dump small),
        number_fits (take 8 (drop 8 dump))
            (All-take IsByte 8 (drop 8 dump) (All-drop IsByte 8 dump small)),
      ) rest.fit;
      bytes_are =
          sym (pair_again dump small (omega arith))
          ∙ ap (λ l. pair_bytes first ++ l) rest.bytes_are;
    }

-- the pairs of a dump of the right length
pub record AreChunks (size : Size) (dump : List ℕ) (chunks : List (List (List ℕ))) : Type 0 where
  pub as_many : length chunks ≡ page_count size * size.words
  pub spelled : AreBytesOf dump (map pair_of chunks)

pub chunks_are : (size : Size) (dump : List ℕ) (numbers : List (List ℕ))
    (chunks : List (List (List ℕ)))
    → length dump ≡ dump_length Pairs size → ((i : ℕ) → get_or dump i 0 < 256)
    → numbers ≡ first_chunks 8 (length dump / 8) dump
    → chunks ≡ first_chunks 2 (length numbers / 2) numbers → length numbers ≡ length dump / 8
    → length chunks ≡ length numbers / 2 → AreChunks size dump chunks
chunks_are size dump numbers chunks long small are pairs some count =
    let m : ℕ = page_count size * size.words in
    let k : ℕ = length dump / 8 in
    let half : length numbers / 2 ≡ m = omega arith in
    let same : chunks ≡ first_chunks 2 m (first_chunks 8 k dump) =
    pairs ∙ ap (λ (n : ℕ). first_chunks 2 n numbers) half ∙ ap (first_chunks 2 m) are in
    record {
      as_many = count ∙ half;
      spelled =
          subst (λ (cs : List (List (List ℕ))). AreBytesOf dump (map pair_of cs)) (sym same)
          (pairs_spelled m k dump (omega arith)
          (All-from_get_or IsByte dump 0 (λ i within. small i)) (omega arith));
    }

-- ---- the words so far

abbrev word_of_chunk : List (List ℕ) → Word
word_of_chunk chunk = word_of_pair (pair_of chunk)

-- the words so far are those of the pairs so far, none of which sums to less than all ones
pub record ArePairsRead (chunks : List (List (List ℕ))) (count : ℕ) (words : List Word)
    : Type 0 where
  pub as_many : length words ≡ count
  pub words_are : words ≡ map word_of_chunk (take count chunks)
  pub below : All IsBelowAllOnes words
  pub high : (k : ℕ) → k < count → all_ones ≤ sum_at (map pair_of chunks) k

-- the numbers of a pair
pub record IsPairAt (chunks : List (List (List ℕ))) (n number check : ℕ) : Type 0 where
  pub within : n < length chunks
  pub number_is : number ≡ from_le_bytes w64 (get_or (get_or chunks n []) 0 [])
  pub check_is : check ≡ from_le_bytes w64 (get_or (get_or chunks n []) 1 [])

sum_here : (chunks : List (List (List ℕ))) (n number check : ℕ) → IsPairAt chunks n number check
    → sum_at (map pair_of chunks) n ≡ number + check
sum_here chunks n number check at =
    ap (λ (p : Pair). p.number + p.check) (get_or-map pair_of chunks n [] erased_pair at.within)
    ∙ ap (λ (k : ℕ). k + from_le_bytes w64 (get_or (get_or chunks n []) 1 []))
    (sym at.number_is)
    ∙ ap (λ (k : ℕ). number + k) (sym at.check_is)

pub one_pair_more : (chunks : List (List (List ℕ))) (n number check : ℕ) (words new : List Word)
    (word : Word)
    → ArePairsRead chunks n words → IsPairAt chunks n number check → IsNorNumber number
    → all_ones ≤ number + check → word ≡ pair_word number check → new ≡ words ++ word ∷ []
    → ArePairsRead chunks (n + 1) new
one_pair_more chunks n number check words new word read at fits high is pushed =
    let here : word ≡ word_of_chunk (get_or chunks n []) =
    is ∙ ap (λ (k : ℕ). pair_word k check) at.number_is
    ∙ ap (pair_word (from_le_bytes w64 (get_or (get_or chunks n []) 0 []))) at.check_is in
    let more = map_more word_of_chunk chunks n [] at.within in
    subst (ArePairsRead chunks (n + 1)) (sym pushed) record {
      as_many = omega (arith, read.as_many, length-append words (word ∷ []));
      words_are =
          ap (λ (ws : List Word). ws ++ word ∷ []) read.words_are
          ∙ ap (λ (w : Word). map word_of_chunk (take n chunks) ++ w ∷ []) here ∙ sym more;
      below =
          All-push IsBelowAllOnes words word read.below
          (subst IsBelowAllOnes (sym is) (below_all_ones number check fits));
      high = λ k less. elim (cases_lt k n) [
        | inl early ↦ read.high k early
        | inr late ↦ let same : k ≡ n =
            omega arith in subst (λ (j : ℕ). all_ones ≤ sum_at (map pair_of chunks) j) (sym same)
            (omega (arith, sum_here chunks n number check at))
      ];
    }

words_of_chunks : (chunks : List (List (List ℕ)))
    → map word_of_chunk chunks ≡ map word_of_pair (map pair_of chunks)
words_of_chunks [] = refl
words_of_chunks (chunk ∷ chunks) =
    ap (λ (ws : List Word). word_of_chunk chunk ∷ ws) (words_of_chunks chunks)

-- at the end they are those of the dump
pub cells_of_pairs : (size : Size) (dump : List ℕ) (chunks : List (List (List ℕ))) (n : ℕ)
    (words : List Word)
    → AreChunks size dump chunks → ArePairsRead chunks n words → length chunks ≤ n
    → AreCells Pairs size dump words
cells_of_pairs size dump chunks n words are read all =
    let same : words ≡ map word_of_pair (map pair_of chunks) =
    read.words_are ∙ ap (map word_of_chunk) (take_all n chunks all) ∙ words_of_chunks chunks in
    record {
      as_many =
          ap length same ∙ length-map (map pair_of chunks) word_of_pair ∙ length-map chunks pair_of
          ∙ are.as_many;
      below_all_ones = read.below;
      spelled = record {
        pairs = map pair_of chunks;
        spelled = are.spelled;
        high = All-from_get_or IsHighPair (map pair_of chunks) erased_pair
            (λ k within. read.high k (omega (arith, length-map chunks pair_of)));
        words_are = same;
      };
    }

-- and before it the first that sums to less is found
pub low_found : (size : Size) (dump : List ℕ) (chunks : List (List (List ℕ)))
    (n number check place wide : ℕ) (words : List Word)
    → AreChunks size dump chunks → ArePairsRead chunks n words → IsPairAt chunks n number check
    → number + check < all_ones → place ≡ n → wide ≡ size.words → 0 < wide
    → IsFirstLowPair size dump (place / wide) (place % wide)
low_found size dump chunks n number check place wide words are read here low is same some =
    let split : place / wide * wide + place % wide ≡ place =
    omega (arith, div-add-mod place wide) in
    let there : place / wide * size.words + place % wide ≡ n =
    subst (λ (w : ℕ). place / wide * w + place % wide ≡ place) same split ∙ is in
    record {
      pairs = map pair_of chunks;
      spelled = are.spelled;
      place_in_range = subst (λ (w : ℕ). place % wide < w) same (mod-lt place some);
      low = subst (λ (k : ℕ). sum_at (map pair_of chunks) k < all_ones) (sym there)
          (omega (arith, sum_here chunks n number check here));
      none_before = λ k less. read.high k (omega (arith, there));
    }
