-- The lines of what an image holds.
use Rattle.std.proofs.Common.{◌≡◌, ◌∙◌, ◌+◌, ◌<◌, ℕ, Option, List, [], ◌∷◌, ◌++◌, length, get_or, take, refl, sym, ap, subst, append-nil, append_assoc, codes, decimal, arith}
use Rattle.std.proofs.lemmas.Grind.{common_steps, flat_map-append}
use Rattle.std.proofs.lemmas.List.{take_more}
use Rattle.ee_text.specs.Field.{joined_fields, space}
use Rattle.ee_text.specs.Line.{line_feed}
use Rattle.ee_core.specs.State.{State, state_of}
use Rattle.ee_flash.specs.Device.{Device}
use Rattle.ee_pages.specs.Meaning.{Map}
use Rattle.ee_settings.specs.Setting.{RecordSetting, Schema, Setting}
use Rattle.ee_settings.specs.declared.listing.Held.{Held}
use Rattle.ee_settings.specs.declared.listing.Listed.{Listed}
use Rattle.ee_shell.specs.ByName.Listing.{AreLines, AreNamed, AreRecordLines, IsList, held_words, listed_line, name_words, told_record, recorded_words, words_behind}
use Rattle.ee_shell.specs.ByName.Records.{IsRecordRead}
use Rattle.ee_shell.specs.ByName.Verifying.{difference_line}
use Rattle.ee_shell.specs.declared.by_name.recorded.Origin.{Origin}
use Rattle.ee_interface.specs.declared.fault.Fault.{Fault}
use Rattle.ee_interface.specs.declared.fault.Fault.TheVariants.{Memory}
use Rattle.ee_image_store.proofs.Public.{no_memory_to_open}
use Rattle.ee_image_store.specs.FileFaults.{IsOpeningFault}
use Rattle.ee_image_store.specs.Opening.{IsOpened}

joined_behind : (word : List ℕ) (words : List (List ℕ))
    → joined_fields (word ∷ words) ≡ word ++ words_behind words
joined_behind word [] = sym (append-nil word)
joined_behind word (next ∷ more) =
    ap (λ (rest : List ℕ). word ++ (space ∷ rest)) (joined_behind next more)

-- the line of an address, part by part
pub line_made : (settings : List Setting) (listed : Listed) (out numbered held named done : List ℕ)
    → numbered ≡ out ++ decimal listed.address
    → held ≡ numbered ++ words_behind (held_words listed.held)
    → named ≡ held ++ words_behind (name_words settings listed.entry)
    → done ≡ named ++ line_feed ∷ [] → done ≡ out ++ listed_line settings listed
line_made settings listed out numbered held named done first second third fourth =
    grind (arith, common_steps, flat_map-append, joined_behind)

-- and the line of a setting that has another value
pub difference_made : (out name named held wanted done : List ℕ) (what : Held) (value : ℕ)
    → named ≡ out ++ name → held ≡ named ++ words_behind (held_words what)
    → wanted ≡ held ++ (codes " wanted " ++ decimal value) → done ≡ wanted ++ line_feed ∷ []
    → done ≡ out ++ difference_line name what value
difference_made out name named held wanted done what value first second third fourth =
    grind (arith, common_steps, flat_map-append, joined_behind)

-- memory can run out whatever the image says
pub no_memory : (image : List ℕ) (fault : Fault) → fault ≡ Memory → IsOpeningFault image fault
no_memory image fault none = rw none (no_memory_to_open image)

-- the line of a record, part by part
pub record_made : (one : RecordSetting) (origin : Origin)
    (spelled out numbered told named done : List ℕ)
    → numbered ≡ out ++ decimal one.form.base
    → told ≡ numbered ++ words_behind (recorded_words origin spelled)
    → named ≡ told ++ space ∷ one.name
    → done ≡ named ++ line_feed ∷ [] → done ≡ out ++ told_record one origin spelled
record_made one origin spelled out numbered told named done first second third fourth =
    grind (arith, common_steps, flat_map-append, joined_behind)

-- one record more
pub records_more : (map : Map) (records : List RecordSetting) (one : RecordSetting)
    (lines spelled : List ℕ) (origin : Origin)
    → AreRecordLines map records lines → IsRecordRead map one.form origin spelled
    → AreRecordLines map (records ++ one ∷ []) (lines ++ told_record one origin spelled)
records_more map [] one lines spelled origin none here =
    (origin, spelled, here, [], refl, rw none (sym (append-nil (told_record one origin spelled))))
records_more map (first ∷ records) one lines spelled origin h here = (
  h.0,
  h.1,
  h.2,
  h.3 ++ told_record one origin spelled,
  records_more map records one h.3 spelled origin h.4 here,
  ap (λ (l : List ℕ). l ++ told_record one origin spelled) h.5
      ∙ append_assoc (told_record first h.0 h.1) h.3 (told_record one origin spelled),
)

-- the lines of some records, and of one more
pub lines_grow : (map : Map) (records : List RecordSetting) (n : ℕ) (one : RecordSetting)
    (spelled : List ℕ) (origin : Origin) (old so_far new : List ℕ)
    → one ≡ get_or records n one → n < length records
    → ((lines : List ℕ) × AreRecordLines map (take n records) lines × (so_far ≡ old ++ lines))
    → IsRecordRead map one.form origin spelled
    → new ≡ so_far ++ told_record one origin spelled
    → (lines : List ℕ) × AreRecordLines map (take (n + 1) records) lines × (new ≡ old ++ lines)
lines_grow map records n one spelled origin old so_far new here within before read written =
    let line : List ℕ = told_record one origin spelled in
    let grown : take (n + 1) records ≡ take n records ++ one ∷ [] =
    take_more records n one within ∙ ap (λ (r : RecordSetting). take n records ++ r ∷ []) (sym here)
    in (
      before.0 ++ line,
      subst (λ (rs : List RecordSetting). AreRecordLines map rs (before.0 ++ line)) (sym grown)
          (records_more map (take n records) one before.0 spelled origin before.1 read),
      written ∙ ap (λ (l : List ℕ). l ++ line) before.2 ∙ append_assoc old before.0 line,
    )

-- the lines of what the opened store holds are those of the image
pub is_list : (image lines : List ℕ) (store : Device) (whole : Schema) (named : Option (List ℕ))
    → IsOpened image store → AreNamed named whole → AreLines whole (state_of store).map lines
    → IsList image named lines
is_list image lines store whole named opened spelled says = record {
  device = opened.device;
  old = opened.old;
  whole = whole;
  named = spelled;
  lines_are = subst (λ (state : State). AreLines whole state.map lines) opened.state_is says;
}
