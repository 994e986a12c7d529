use Rattle.std.proofs.Common.{◌≡◌, ◌⊎◌, ◌≤◌, length, rules, arith, inl, []}
use Rattle.ee_text.proofs.Public.{error_passed_on}
use Rattle.ee_flash.specs.Size.{IsWithinLimits, size_of}
use Rattle.ee_flash.specs.Cells.{device_from}
use Rattle.ee_flash.specs.Memory.{device_of, memory_of}
use Rattle.ee_image.specs.Text.{at_rest}
use Rattle.ee_image.specs.Fault.{BeginsWithSize, IsImageFault}
use Rattle.ee_image.specs.declared.fault.ImageFault.TheVariants.{TooLong, BadShape, Memory}
use Rattle.ee_image.proofs.Answered.{IsDevice, are_cells, device_read, fault_behind, is_named, kept_device, no_fault, only_memory, same_device}
use Rattle.ee_image.proofs.reading.read_image.Given
use Rattle.ee_image.proofs.reading.read_image.Goals as goal

pub returns-then-bytes-gt-LONGEST-clause-only : goal.returns-then-bytes-gt-LONGEST-clause-only
returns-then-bytes-gt-LONGEST-clause-only g c = λ device formed spelled.
    let bad : IsImageFault c.args.bytes.now TooLong = inl (omega arith) in
    only_memory c.args.bytes.now TooLong device bad formed spelled

pub returns-in_default-shape-clause-only : goal.returns-in_default-shape-clause-only
returns-in_default-shape-clause-only g c = λ device formed spelled.
    let bad : IsImageFault c.args.bytes.now BadShape = search rules in
    only_memory c.args.bytes.now BadShape device bad formed spelled

pub returns-in_default-shape-clause-names : goal.returns-in_default-shape-clause-names
returns-in_default-shape-clause-names g c = λ fault is.
    let bad : IsImageFault c.args.bytes.now BadShape = search rules in
    is_named c.args.bytes.now BadShape fault bad is

-- what was wrong behind the first line
wrong : (g : Given.Over) (c : goal.After-from_residual g)
    → IsImageFault c.args.bytes.now c.in_err-cells.field-0.0
wrong g c =
    let same : c.in-Some-shape.shape ≡ size_of c.in-Some.heading.pages c.in-Some.heading.words =
    search rules in
    let limits : IsWithinLimits c.in-Some-shape.shape = search rules in
    let begins : BeginsWithSize c.args.bytes.now c.in-Some-shape.shape c.in-Some.rest.now =
    rw same c.in-Some.ensures.found in
    let fits : length c.args.bytes.now ≤ 4194304 = omega arith in
    fault_behind c.args.bytes.now c.in-Some.rest.now c.in-Some-shape.shape c.in_err-cells.field-0.0
    fits begins limits c.in_err-cells.ensures.fault

pub returns-in_err-cells-clause-only : goal.returns-in_err-cells-clause-only
returns-in_err-cells-clause-only g c = λ device formed spelled.
    error_passed_on c.from_residual.result c.in_err-cells.field-0.0
    (λ flash. device_of flash ≡ at_rest device) (λ fault. fault ≡ Memory) c.from_residual.ensures.1
    (only_memory c.args.bytes.now c.in_err-cells.field-0.0 device (wrong g c) formed spelled)

pub returns-in_err-cells-clause-names : goal.returns-in_err-cells-clause-names
returns-in_err-cells-clause-names g c = λ fault is.
    error_passed_on c.from_residual.result c.in_err-cells.field-0.0 (λ flash. ⊥)
    (λ given. (given ≡ fault) ⊎ (given ≡ Memory)) c.from_residual.ensures.1
    (is_named c.args.bytes.now c.in_err-cells.field-0.0 fault (wrong g c) is)

pub unreachable-requires : goal.unreachable-requires
unreachable-requires g c =
    let kept =
    are_cells c.in-Some-shape.shape c.in-Some.rest.now [] c.in_ok-cells.cells
    c.in_ok-cells.wear.items c.in_ok-cells.ensures.found in
    c.in-Err.ensures.fault kept.lengths

-- what was read
read : (g : Given.Over) (c : goal.In-Ok g) → IsDevice c.args.bytes.now (device_of c.in-Ok.flash)
read g c =
    let same : c.in-Some-shape.shape ≡ size_of c.in-Some.heading.pages c.in-Some.heading.words =
    search rules in
    let limits : IsWithinLimits c.in-Some-shape.shape = search rules in
    let begins : BeginsWithSize c.args.bytes.now c.in-Some-shape.shape c.in-Some.rest.now =
    rw same c.in-Some.ensures.found in
    let is =
    device_read c.args.bytes.now c.in-Some.rest.now c.in-Some-shape.shape c.in_ok-cells.cells
    c.in_ok-cells.wear.items begins limits c.in_ok-cells.ensures.found in
    kept_device c.args.bytes.now (memory_of c.in-Ok.flash)
    (device_from c.in-Some-shape.shape c.in_ok-cells.cells c.in_ok-cells.wear.items) is
    c.in-Ok.ensures.device

pub returns-clause-found : goal.returns-clause-found
returns-clause-found g c = (read g c).text_is

pub returns-clause-only : goal.returns-clause-only
returns-clause-only g c =
    λ device formed spelled.
    same_device c.args.bytes.now (device_of c.in-Ok.flash) device (read g c) formed spelled

pub returns-clause-names : goal.returns-clause-names
returns-clause-names g c =
    λ fault bad. no_fault c.args.bytes.now (device_of c.in-Ok.flash) fault (read g c) bad
