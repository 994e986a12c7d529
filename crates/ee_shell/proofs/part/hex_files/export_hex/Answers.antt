use Rattle.std.proofs.Common.{rules, ◌≡◌, inl, true, subst, sym, arith}
use Rattle.std.proofs.lemmas.Result.{err_from_is_err_and}
use Rattle.ee_flash.specs.Memory.{device_of}
use Rattle.ee_interface.specs.declared.fault.Fault.TheVariants.{Base}
use Rattle.ee_image_store.proofs.Public.{formed_of}
use Rattle.ee_shell.specs.Part.Hex.{PartFits}
use Rattle.ee_shell.proofs.PartLemmas.HexCauses.{dump_fits, far_placed, hex_exported_good, is_told, no_memory_told, not_dumped, one_hex_export_fault}
use Rattle.ee_shell.proofs.part.hex_files.export_hex.Goals as goal

pub text_of_dump-requires : goal.text_of_dump-requires
text_of_dump-requires g c =
    let near : PartFits c.args.form c.args.base (device_of c.in_ok-flash.flash).size =
    subst (PartFits c.args.form c.args.base) c.shape.ensures
    (c.fits.ensures.0 c.if-not-fits.false) in
    let fits =
    dump_fits c.args.form c.args.base (device_of c.in_ok-flash.flash) c.in_ok-dump.dump.items
    c.deref.result.now (formed_of c.in_ok-flash.flash) near c.in_ok-dump.ensures.written
    c.deref.ensures.value in
    omega arith

pub returns-in_err-flash-clause-names : goal.returns-in_err-flash-clause-names
returns-in_err-flash-clause-names g c = λ cause some applies.
    let p = err_from_is_err_and c.from_residual.result c.from_residual.ensures.1 in
    rw p.1
    (rw p.2
    (one_hex_export_fault c.args.form c.args.image.now c.args.base cause
    c.in_err-flash.field-0.0 some applies (inl c.in_err-flash.ensures.fault)))

pub returns-then-not-fits-clause-fault : goal.returns-then-not-fits-clause-fault
returns-then-not-fits-clause-fault g c =
    far_placed c.args.form c.args.image.now c.args.base (device_of c.in_ok-flash.flash)
    c.in_ok-flash.ensures.read
    (λ near. let told : c.fits.result ≡ true =
    c.fits.ensures.1 (subst (PartFits c.args.form c.args.base) (sym c.shape.ensures) near) in
    cc)

pub returns-then-not-fits-clause-names : goal.returns-then-not-fits-clause-names
returns-then-not-fits-clause-names g c = λ cause some applies.
    one_hex_export_fault c.args.form c.args.image.now c.args.base cause Base some applies
    (returns-then-not-fits-clause-fault g c)

pub returns-in_err-dump-clause-fault : goal.returns-in_err-dump-clause-fault
returns-in_err-dump-clause-fault g c =
    let p =
    err_from_is_err_and c.from_residual-in_err-dump.result
    c.from_residual-in_err-dump.ensures.1 in
    rw p.1
    (rw p.2
    (not_dumped c.args.form c.args.image.now c.args.base (device_of c.in_ok-flash.flash)
    c.in_err-dump.field-0.0 c.in_ok-flash.ensures.read
    (subst (PartFits c.args.form c.args.base) c.shape.ensures
    (c.fits.ensures.0 c.if-not-fits.false)) c.in_err-dump.ensures.fault))

pub returns-in_err-dump-clause-names : goal.returns-in_err-dump-clause-names
returns-in_err-dump-clause-names g c = λ cause some applies.
    let p =
    err_from_is_err_and c.from_residual-in_err-dump.result
    c.from_residual-in_err-dump.ensures.1 in
    rw p.1 (rw p.2 (one_hex_export_fault c.args.form c.args.image.now c.args.base cause
    c.in_err-dump.field-0.0 some applies
    (not_dumped c.args.form c.args.image.now c.args.base (device_of c.in_ok-flash.flash)
    c.in_err-dump.field-0.0 c.in_ok-flash.ensures.read
    (subst (PartFits c.args.form c.args.base) c.shape.ensures
    (c.fits.ensures.0 c.if-not-fits.false)) c.in_err-dump.ensures.fault)))

pub returns-in_err-text_of_dump-clause-fault : goal.returns-in_err-text_of_dump-clause-fault
returns-in_err-text_of_dump-clause-fault g c =
    let p =
    err_from_is_err_and c.from_residual-in_err-text_of_dump.result
    c.from_residual-in_err-text_of_dump.ensures.1 in
    rw p.1
    (rw p.2
    (no_memory_told c.args.form c.args.image.now c.args.base (device_of c.in_ok-flash.flash)
    c.in_ok-flash.ensures.read
    (subst (PartFits c.args.form c.args.base) c.shape.ensures
    (c.fits.ensures.0 c.if-not-fits.false))))

pub returns-clause-exported : goal.returns-clause-exported
returns-clause-exported g c =
    is_told c.args.fill c.args.form c.args.image.now c.args.base (device_of c.in_ok-flash.flash)
    c.in_ok-dump.dump.items c.deref.result.now c.in_ok-text_of_dump.field-0.items
    c.in_ok-flash.ensures.read
    (subst (PartFits c.args.form c.args.base) c.shape.ensures
    (c.fits.ensures.0 c.if-not-fits.false)) c.in_ok-dump.ensures.written
    c.deref.ensures.value (search rules)

pub returns-clause-names : goal.returns-clause-names
returns-clause-names g c = λ cause some applies.
    hex_exported_good c.args.fill c.args.form c.args.image.now c.args.base c.in_ok-text_of_dump.field-0.items cause
    (returns-clause-exported g c) some applies
