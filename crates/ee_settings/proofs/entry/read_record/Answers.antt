use Rattle.std.proofs.Common.{◌≡◌, ◌∙◌, refl, rules, true}
use Rattle.toml.specs.View.{view}
use Rattle.ee_settings.proofs.Addresses.{in_record}
use Rattle.ee_settings.proofs.Entries.{record_is}
use Rattle.ee_settings.proofs.Once.{same_record_fields}
use Rattle.ee_settings.specs.File.{RecordFields, fields_of_record}
use Rattle.ee_settings.specs.Setting.{Kept, RecordForm, is_name}
use Rattle.ee_settings.proofs.entry.read_record.Goals as goal

pub returns-then-has_any-clause-err : goal.returns-then-has_any-clause-err
returns-then-has_any-clause-err g c =
    let named : is_name c.args.name.now ≡ true = search rules in
    let room = c.in-Some-checked_room.room in
    let found = c.in-Some-checked_room.ensures.found in
    let taken = c.has_any.ensures.yes c.if-has_any.true in
    let form : RecordForm = record {
      base = room.base;
      kind = room.kind;
      size = room.size;
      default = c.in-Some.fields.default.now;
    } in
    let fields : RecordFields = record {
      address = c.in-Some.fields.address;
      kind = c.in-Some.fields.kind;
      size = c.in-Some.fields.size;
      default = c.in-Some.fields.default.now;
    } in
    let address : c.in-Some.fields.address
    ≡ mir.Val.to_z mir.Syntax.w64 (mir.Val.of_z mir.Syntax.w64 c.in-Some.fields.address) =
    search rules in
    let size : c.in-Some.fields.size
    ≡ mir.Val.to_z mir.Syntax.w64 (mir.Val.of_z mir.Syntax.w64 c.in-Some.fields.size) =
    search rules in
    let same : fields ≡ fields_of_record form =
    same_record_fields fields (fields_of_record form) (address ∙ found.0) found.1 (size ∙ found.2)
    refl in (
      refl,
      (
        Kept (record { name = c.args.name.now; form = form }),
        record_is c.args.name.now (view c.args.value.now) fields form named
            c.in-Some.ensures.found same c.in-Some-checked_room.ensures.proper,
        (
          taken.0,
          in_record form taken.0 c.get.result c.last_address.result c.get.ensures.number
              c.last_address.ensures taken.1 taken.2,
          taken.3,
        ),
      ),
    )
