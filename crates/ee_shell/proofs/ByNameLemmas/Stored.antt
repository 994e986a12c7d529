-- What entries that were taken leave of the map.
use Rattle.std.proofs.Common.{◌≡◌, ◌≢◌, ◌∙◌, ◌<◌, ℕ, suc, List, [], ◌∷◌, length, map, Less, nat_cmp, inl, inr, refl, sym, ap, subst, arith, rules}
use Rattle.std.proofs.lemmas.List.Elements.{All-cons, All-contains, All-head, All-nil, All-tail}
use Rattle.std.specs.Cmp.Lexicographic.{slice_cmp}
use Rattle.std.specs.List.{All, AllByRecursion}
use Rattle.std.specs.List.Sorted.{IsStrictlySortedBy}
use Rattle.ee_flash.specs.Device.{Device}
use Rattle.ee_pages.specs.Meaning.{Map}
use Rattle.ee_pages.proofs.Public.{put_there}
use Rattle.ee_core.specs.State.{state_of}
use Rattle.ee_settings.proofs.Public.{never_equal, changed_elsewhere, written_map}
use Rattle.ee_settings.specs.File.{Entry, HaveRisingKeys}
use Rattle.ee_settings.specs.Setting.{IsSchema, Setting}
use Rattle.ee_shell.specs.ByName.Applying.{Applies, IsMapApplied, IsStored, NamesAddress, TakesEntry}

-- ---- one entry

stored_by : (settings : List Setting) (old new : Device) (entry : Entry) (count : ℕ)
    → TakesEntry settings old entry count new → IsStored settings new entry
stored_by settings old new entry count (inl h) =
    subst (λ (d : Device). IsStored settings d entry) (sym h.2) h.0
stored_by settings old new entry count (inr h) = search (rules, put_there, written_map)

kept_by : (settings : List Setting) (old new : Device) (entry : Entry) (entries : List Entry)
    (count address : ℕ)
    → ¬ NamesAddress settings (entry ∷ entries) address → TakesEntry settings old entry count new
    → (state_of new).map address ≡ (state_of old).map address
kept_by settings old new entry entries count address apart (inl h) =
    ap (λ (d : Device). (state_of d).map address) h.2
kept_by settings old new entry entries count address apart (inr h) =
    let write = h.0.written in
    let here : 0 < length (entry ∷ entries) = omega arith in
    let other : write.setting.numbers.address ≢ address =
    λ same. apart (entry, (0, here, refl), write.setting, write.named, same) in
    ap (λ (m : Map). m address)
    (written_map old new write.setting.numbers.address h.0.value write.answer write.written)
    ∙ changed_elsewhere write.setting.numbers.address h.0.value address (state_of old).map other

-- ---- all of them

named_later : (settings : List Setting) (entries : List Entry) (entry : Entry) (address : ℕ)
    → NamesAddress settings entries address → NamesAddress settings (entry ∷ entries) address
named_later settings entries entry address h =
    let at = h.1.1 in
    let within : suc h.1.0 < length (entry ∷ entries) = omega arith in
    (h.0, (suc h.1.0, within, h.1.2), h.2, h.3, h.4)

kept_elsewhere : (settings : List Setting) (entries : List Entry) (old new : Device)
    (count address : ℕ)
    → ¬ NamesAddress settings entries address → Applies settings entries old count new
    → (state_of new).map address ≡ (state_of old).map address
kept_elsewhere settings [] old new count address apart h =
    ap (λ (d : Device). (state_of d).map address) h.1
kept_elsewhere settings (entry ∷ entries) old new count address apart h =
    kept_elsewhere settings entries h.1 new h.2 address
    (λ named. apart (named_later settings entries entry address named)) h.4
    ∙ kept_by settings old h.1 entry entries h.0 address apart h.3

each_below : (key : List ℕ) (entries : List Entry)
    → AllByRecursion (λ (y : List ℕ). slice_cmp nat_cmp key y ≡ Less)
    (map (λ (e : Entry). e.0) entries)
    → All (λ (e : Entry). slice_cmp nat_cmp key e.0 ≡ Less) entries
each_below key [] h = All-nil (λ (e : Entry). slice_cmp nat_cmp key e.0 ≡ Less)
each_below key (e ∷ entries) h =
    All-cons (λ (e : Entry). slice_cmp nat_cmp key e.0 ≡ Less) e entries h.0
    (each_below key entries h.1)

rising_first : (entry : Entry) (entries : List Entry) → HaveRisingKeys (entry ∷ entries)
    → All (λ (e : Entry). slice_cmp nat_cmp entry.0 e.0 ≡ Less) entries
unfolding IsStrictlySortedBy
rising_first entry entries h = each_below entry.0 entries h.0

rising_rest : (entry : Entry) (entries : List Entry) → HaveRisingKeys (entry ∷ entries)
    → HaveRisingKeys entries
unfolding IsStrictlySortedBy
rising_rest entry entries h = h.1

-- no later entry names the setting of the first
first_alone : (settings : List Setting) (entry : Entry) (entries : List Entry) (device : Device)
    → IsSchema settings → HaveRisingKeys (entry ∷ entries) → (h : IsStored settings device entry)
    → ¬ NamesAddress settings entries h.setting.numbers.address
first_alone settings entry entries device schema rising h named =
    let setting = schema.addresses named.2 h.setting named.3.0 h.named.0 named.4 in
    let less =
    All-contains (λ (e : Entry). slice_cmp nat_cmp entry.0 e.0 ≡ Less) entries named.0
    (rising_first entry entries rising) named.1 in
    never_equal entry.0 named.0.0 less
    (sym h.named.1 ∙ ap (λ (s : Setting). s.name) (sym setting) ∙ named.3.1)

each_stored : (settings : List Setting) (entries : List Entry) (old new : Device) (count : ℕ)
    → IsSchema settings → HaveRisingKeys entries → Applies settings entries old count new
    → All (IsStored settings new) entries
each_stored settings [] old new count schema rising h = All-nil (IsStored settings new)
each_stored settings (entry ∷ entries) old new count schema rising h =
    let first = stored_by settings old h.1 entry h.0 h.3 in
    All-cons (IsStored settings new) entry entries
    (record {
      value = first.value;
      number = first.number;
      setting = first.setting;
      named = first.named;
      in_range = first.in_range;
      stored =
          kept_elsewhere settings entries h.1 new h.2 first.setting.numbers.address
          (first_alone settings entry entries h.1 schema rising first) h.4
          ∙ first.stored;
    })
    (each_stored settings entries h.1 new h.2 schema (rising_rest entry entries rising) h.4)

pub applying_stores_values_lem : (settings : List Setting) → IsSchema settings
    → (entries : List Entry) → HaveRisingKeys entries → (old new : Device) (count : ℕ)
    → Applies settings entries old count new → IsMapApplied settings entries old new
applying_stores_values_lem settings schema entries rising old new count h =
    search (rules, each_stored, kept_elsewhere)

applies_none : (settings : List Setting) (entries : List Entry) (device : Device)
    → All (IsStored settings device) entries → Applies settings entries device 0 device
applies_none settings [] device h = (refl, refl)
applies_none settings (entry ∷ entries) device h = (
  0,
  device,
  0,
  inl (All-head (IsStored settings device) entry entries h, refl, refl),
  applies_none settings entries device (All-tail (IsStored settings device) entry entries h),
  refl,
)

pub applying_twice_lem : (settings : List Setting) → IsSchema settings → (entries : List Entry)
    → HaveRisingKeys entries → (old new : Device) (count : ℕ)
    → Applies settings entries old count new → Applies settings entries new 0 new
applying_twice_lem settings schema entries rising old new count h =
    applies_none settings entries new (each_stored settings entries old new count schema rising h)
