-- Texts written piece by piece.
use Rattle.std.proofs.Common.{◌≡◌, ◌<◌, ◌+◌, ◌/◌, ℕ, List, ◌++◌, append_assoc, codes, get_or, length, take, rules, Ok, Err, Result}
use Rattle.std.specs.Bool.{if◌then◌else◌}
use Rattle.std.specs.Result.{OnOk, is_ok}
use Rattle.std.proofs.lemmas.List.{flat_map_more, take_more}
use Rattle.std.specs.List.{flat_map}
use Rattle.ee_settings.specs.Setting.{RecordSetting, Setting}
use Rattle.ee_shell.specs.ByName.Header.{constant_in, constants_in, in_capitals, record_constants_in}
use Rattle.ee_shell.specs.declared.by_name.language.Language.{Language}
use Rattle.ee_shell.specs.declared.by_name.language.Language.TheVariants.{C, Rust}

-- what a write leaves where it went well
pub written_ok : {T E : Type 0} (made : Result T E) (now whole part : List ℕ)
    → now ≡ (if is_ok made then whole else part) → OnOk made (now ≡ whole)
written_ok (Ok done) now whole part is = is
written_ok (Err why) now whole part is = tt

-- what is written of one more of a list
pub one_more : {T : Type 0} (of : T → List ℕ) (all : List T) (i : ℕ) (one : T)
    (old so_far now : List ℕ)
    → one ≡ get_or all i one → i < length all
    → so_far ≡ old ++ flat_map of (take i all) → now ≡ so_far ++ of one
    → now ≡ old ++ flat_map of (take (i + 1) all)
one_more of all i one old so_far now here within before written =
    search (rules, flat_map_more, take_more)

-- two pieces, where the last of them went well
pub two_pieces : {T E : Type 0} (made : Result T E) (a b old first second : List ℕ)
    → first ≡ old ++ a → OnOk made (second ≡ first ++ b) → OnOk made (second ≡ old ++ (a ++ b))
two_pieces (Ok done) a b old first second h1 h2 = rw (h2, h1) (simp append_assoc)
two_pieces (Err why) a b old first second h1 h2 = tt

-- five pieces, where the last of them went well
pub five_pieces : {T E : Type 0} (made : Result T E)
    (a b c d e old first second third fourth fifth : List ℕ)
    → first ≡ old ++ a → second ≡ first ++ b → third ≡ second ++ c → fourth ≡ third ++ d
    → fifth ≡ (if is_ok made then fourth ++ e else fourth)
    → OnOk made (fifth ≡ old ++ (a ++ b ++ c ++ d ++ e))
five_pieces (Ok done) a b c d e old first second third fourth fifth h1 h2 h3 h4 h5 =
    rw (h5, h4, h3, h2, h1) (simp append_assoc)
five_pieces (Err why) a b c d e old first second third fourth fifth h1 h2 h3 h4 h5 = tt

-- the constants of a setting
pub constants_made : (language : Language) (setting : Setting)
    (name old line first second third last : List ℕ)
    → name ≡ in_capitals setting.name → line ≡ old ++ codes "\n"
    → first
    ≡ line ++ constant_in language name (codes "ADDRESS") (codes "u16") setting.numbers.address
    → second ≡ first ++ constant_in language name (codes "MIN") (codes "u32") setting.numbers.min
    → third ≡ second ++ constant_in language name (codes "MAX") (codes "u32") setting.numbers.max
    → last
    ≡ third ++ constant_in language name (codes "DEFAULT") (codes "u32") setting.numbers.default
    → last ≡ old ++ constants_in language setting
constants_made C setting name old line first second third last capitals h1 h2 h3 h4 h5 =
    rw (h5, h4, h3, h2, h1, capitals) (search (rules, append_assoc))
constants_made Rust setting name old line first second third last capitals h1 h2 h3 h4 h5 =
    rw (h5, h4, h3, h2, h1, capitals) (search (rules, append_assoc))

-- the constants of a record
pub record_constants_made : (language : Language) (one : RecordSetting)
    (name old line first second last : List ℕ) (base size : ℕ)
    → name ≡ in_capitals one.name → line ≡ old ++ codes "\n"
    → base ≡ one.form.base → size ≡ one.form.size
    → first ≡ line ++ constant_in language name (codes "ADDRESS") (codes "u16") base
    → second ≡ first ++ constant_in language name (codes "WORDS") (codes "u16") ((size + 3) / 4)
    → last ≡ second ++ constant_in language name (codes "BYTES") (codes "usize") size
    → last ≡ old ++ record_constants_in language one
record_constants_made C one name old line first second last base size capitals h1 b z h2 h3 h4 =
    rw (h4, h3, h2, h1, b, z, capitals) (search (rules, append_assoc))
record_constants_made Rust one name old line first second last base size capitals h1 b z h2 h3 h4 =
    rw (h4, h3, h2, h1, b, z, capitals) (search (rules, append_assoc))
