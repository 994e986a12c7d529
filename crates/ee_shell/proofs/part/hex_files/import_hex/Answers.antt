use Rattle.std.proofs.Common.{rules, ◌≡◌, ℕ, Vec, subst, sym, true}
use Rattle.ee_shell.specs.Dumps.intel_hex.Fault.{IsBadHexLine, IsHexFault}
use Rattle.ee_shell.proofs.PartLemmas.HexCauses.{hex_imported, hex_named, hex_names, hex_not_imported, not_fitting, not_placed, text_wrong}
use Rattle.ee_shell.proofs.part.hex_files.import_hex.Goals as goal

pub returns-then-not-fits-clause-fault : goal.returns-then-not-fits-clause-fault
returns-then-not-fits-clause-fault g c =
    not_fitting c.args.form c.args.shape c.args.base c.args.hex.now
    (λ near. let told : c.fits.result ≡ true = c.fits.ensures.1 near in cc)

pub returns-then-not-fits-clause-names : goal.returns-then-not-fits-clause-names
returns-then-not-fits-clause-names g c = λ cause some applies.
    not_placed c.args.form c.args.shape c.args.base c.args.hex.now cause
    (λ near. let told : c.fits.result ≡ true = c.fits.ensures.1 near in cc) applies

pub returns-in-Err-clause-fault : goal.returns-in-Err-clause-fault
returns-in-Err-clause-fault g c =
    text_wrong c.args.form c.args.shape c.args.base c.args.hex.now (search rules) c.in-Err.fault
    c.hex_fault.result
    (subst (λ (k : ℕ). IsHexFault c.args.hex.now c.args.base k c.in-Err.fault) c.dump_length.ensures
    (search rules)) c.hex_fault.ensures

pub returns-in-Err-clause-names : goal.returns-in-Err-clause-names
returns-in-Err-clause-names g c = λ cause some applies.
    hex_named c.args.form c.args.shape c.args.base c.args.hex.now (search rules) c.in-Err.fault
    c.hex_fault.result cause
    (λ n bad. c.in-Err.ensures.names n
    (subst (λ (k : ℕ). IsBadHexLine c.args.hex.now c.args.base k n) (sym c.dump_length.ensures)
    bad))
    (subst (λ (k : ℕ). IsHexFault c.args.hex.now c.args.base k c.in-Err.fault) c.dump_length.ensures
    (search rules)) c.hex_fault.ensures some applies

pub returns-clause-imported : goal.returns-clause-imported
returns-clause-imported g c =
    hex_imported (λ (bytes : Vec ℕ g.row.A.Denot). bytes.items) c.args.form c.args.shape c.args.base
    c.dump_length.result c.args.hex.now c.in-Ok.dump.items c.deref.result.now
    c.dump_length.ensures (search rules) (search rules) c.deref.ensures.value
    c.import_image.result c.import_image.ensures.imported

pub returns-clause-fault : goal.returns-clause-fault
returns-clause-fault g c =
    hex_not_imported (λ (bytes : Vec ℕ g.row.A.Denot). bytes.items) c.args.form c.args.shape
    c.args.base c.dump_length.result c.args.hex.now c.in-Ok.dump.items c.deref.result.now
    c.dump_length.ensures (search rules) (search rules) c.deref.ensures.value
    c.import_image.result c.import_image.ensures.fault

pub returns-clause-names : goal.returns-clause-names
returns-clause-names g c =
    hex_names (λ (bytes : Vec ℕ g.row.A.Denot). bytes.items) c.args.form c.args.shape c.args.base
    c.dump_length.result c.args.hex.now c.in-Ok.dump.items c.deref.result.now
    c.dump_length.ensures (search rules) (search rules) c.deref.ensures.value
    c.import_image.result c.import_image.ensures.names
