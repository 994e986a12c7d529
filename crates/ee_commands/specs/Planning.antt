-- What is planned and what is checked for a script on an image, and why not.
use Rattle.std.specs.Prelude.{◌≡◌, ◌⊎◌, ◌≤◌, ℕ, List, [], ◌∷◌, length, decimal, codes}
use Rattle.std.specs.List.{AllByRecursion}
use Rattle.ee_text.specs.Field.{joined_fields}
use Rattle.ee_text.specs.Line.{line_of}
use Rattle.ee_flash.specs.Device.{Device}
use Rattle.ee_flash.specs.Size.{slot_count}
use Rattle.ee_core.specs.State.{state_of}
use Rattle.ee_check.specs.declared.change.Change.{Change}
use Rattle.ee_check.specs.declared.checking.CheckFault.{CheckFault}
use Rattle.ee_check.specs.declared.checking.CheckFault.TheVariants as check
use Rattle.ee_check.specs.Certificate.{Claim, IsCertificate, IsTight}
use Rattle.ee_check.specs.Fault.{IsCause}
use Rattle.ee_check.specs.Schedule.{IsSchedule, Move, Situation, cost}
use Rattle.ee_check.specs.Text.{IsText, IsCertificateTextFault, text_of}
use Rattle.ee_plan.specs.Planner.Plan.{IsPlanFault}
use Rattle.ee_plan.specs.Start.{IsStartOf}
use Rattle.ee_plan.specs.declared.planner.planned.PlanFault.{PlanFault}
use Rattle.ee_plan.specs.declared.planner.planned.PlanFault.TheVariants as plan
use Rattle.ee_interface.specs.declared.script.command.Command.{Command}
use Rattle.ee_interface.specs.declared.script.command.Command.TheVariants.{Arm, PowerOn}
use Rattle.ee_interface.specs.declared.script.session.ScriptFault.{ScriptFault}
use Rattle.ee_interface.specs.declared.script.session.ScriptFault.TheVariants.{BadLine, Memory}
use Rattle.ee_interface.specs.Script.Command.{IsCommand}
use Rattle.ee_interface.specs.Script.Script.{IsFirstBadLineOf, script}
use Rattle.ee_interface.specs.Fault.{fault_of_certificate, fault_of_check, fault_of_script}
use Rattle.ee_interface.specs.declared.fault.Fault.{Fault}
use Rattle.ee_interface.specs.declared.fault.Fault.TheVariants as fault
use Rattle.ee_image_store.specs.FileFaults.{IsOpeningFault}
use Rattle.ee_image_store.specs.Opening.{IsStoreText}
use Rattle.ee_image_store.specs.Trace.{trace_of}

-- the fault of a trace that has no plan
abbrev pub fault_of_plan : PlanFault → Fault
fault_of_plan (plan.NotFitting change) = fault.NotFitting change
fault_of_plan plan.Memory = fault.Memory

-- this is what the store of the image that the text spells gives a trace to start from
pub record IsImageStart (image : List ℕ) (start : Situation) : Type 0 where
  pub device : Device
  pub store : IsStoreText image device
  pub start_is : IsStartOf (slot_count device.size) (state_of device) start

-- a command that a trace's script may have: it writes, forgets, reads or cleans
abbrev pub KeepsPower : Command → Type 0
KeepsPower (Arm fuse) = ⊥
KeepsPower PowerOn = ⊥
KeepsPower command = Unit {0}

abbrev pub IsTraceCommand : Command → Type 0
IsTraceCommand command = IsCommand command × KeepsPower command

-- these are the writes and forgettings of the script that the text is, which neither cuts power nor
-- turns it on; what it reads and what it cleans changes no value
pub record IsTrace (text : List ℕ) (trace : List Change) : Type 0 where
  pub commands : List Command
  pub proper : AllByRecursion IsTraceCommand commands
  pub text_is : text ≡ script commands
  pub trace_is : trace ≡ trace_of commands

-- the start that the image gives, and the trace of the script
pub record IsTask (image text : List ℕ) (start : Situation) (trace : List Change) : Type 0 where
  pub start_is : IsImageStart image start
  pub trace_is : IsTrace text trace

-- The claim is the tight certificate of the image's start and the script's trace, which the checker
-- accepts; some store that transfers when it likes makes as many transfers as it has stretches, and
-- none makes fewer.
pub record IsPlannedClaim (image text : List ℕ) (claim : Claim) : Type 0 where
  pub start : Situation
  pub trace : List Change
  pub task : IsTask image text start trace
  pub tight : IsTight start trace claim
  pub certificate : IsCertificate start trace claim
  pub reached : (schedule : List Move) × IsSchedule start trace schedule
      × (cost schedule ≡ length claim.stretches)
  pub fewest : (schedule : List Move) → IsSchedule start trace schedule
      → length claim.stretches ≤ cost schedule

-- the text is that of the claim which is planned
pub record IsPlanned (image text planned : List ℕ) : Type 0 where
  pub claim : Claim
  pub is_planned : IsPlannedClaim image text claim
  pub text_is : planned ≡ text_of claim

-- how many transfers are proved, as `check` prints it
abbrev pub proved_text : ℕ → List ℕ
proved_text transfers = line_of (joined_fields (codes "proved" ∷ decimal transfers ∷ []))

-- The text of the certificate says a certificate of the image's start and the script's trace: each
-- schedule transfers at least as often as it has stretches, and their number is printed.
pub record IsProved (image text certificate proved : List ℕ) : Type 0 where
  pub start : Situation
  pub trace : List Change
  pub task : IsTask image text start trace
  pub claim : Claim
  pub spelled : IsText certificate claim
  pub accepted : IsCertificate start trace claim
  pub bound : (moves : List Move) → IsSchedule start trace moves
      → length claim.stretches ≤ cost moves
  pub text_is : proved ≡ proved_text (length claim.stretches)

-- the fault of a layer below, under the name that the program gives it
pub record NamesFault {Cause : Type 0} (named : Cause → Fault) (Applies : Cause → Type 0)
    (fault : Fault) : Type 0 where
  pub cause : Cause
  pub applies : Applies cause
  pub fault_is : fault ≡ named cause

-- why a text gives no trace: its first bad line, as is here one that cuts power or turns it
-- on; or want of memory
abbrev pub IsTraceFault : List ℕ → ScriptFault → Type 0
IsTraceFault text (BadLine n) = IsFirstBadLineOf IsTraceCommand text n
IsTraceFault text Memory = Unit {0}

-- why a start and a trace can't be had, the first cause that applies: no store is opened from the
-- image, or one is and the script has a line that is bad for a trace; or memory ran out
abbrev pub IsTaskFault : List ℕ → List ℕ → Fault → Type 0
IsTaskFault image text fault =
    IsOpeningFault image fault
    ⊎ (((device : Device) × IsStoreText image device)
    × NamesFault fault_of_script (IsTraceFault text) fault)

-- why there is no plan, the first cause that applies: the start and the trace can't be had, or they
-- can and the trace does not fit; or memory ran out
abbrev pub IsPlanningFault : List ℕ → List ℕ → Fault → Type 0
IsPlanningFault image text fault =
    IsTaskFault image text fault
    ⊎ ((start : Situation) × (trace : List Change) × IsTask image text start trace
    × NamesFault fault_of_plan (IsPlanFault start trace) fault)

-- why a claim is refused; want of memory has no cause in it
abbrev pub IsRefusal : Situation → List Change → Claim → CheckFault → Type 0
IsRefusal start trace claim fault = IsCause start trace claim fault ⊎ (fault ≡ check.Memory)

-- why the text of a certificate isn't accepted, the first cause that applies: it says none, or
-- what it says is refused
abbrev pub IsCertificateFault : Situation → List Change → List ℕ → Fault → Type 0
IsCertificateFault start trace certificate fault =
    NamesFault fault_of_certificate (IsCertificateTextFault certificate) fault
    ⊎ ((claim : Claim) × IsText certificate claim
    × NamesFault fault_of_check (IsRefusal start trace claim) fault)

-- why nothing is proved, the first cause that applies: the start and the trace can't be had, or
-- they can and the certificate isn't accepted; or memory ran out
abbrev pub IsCheckingFault : List ℕ → List ℕ → List ℕ → Fault → Type 0
IsCheckingFault image text certificate fault =
    IsTaskFault image text fault
    ⊎ ((start : Situation) × (trace : List Change) × IsTask image text start trace
    × IsCertificateFault start trace certificate fault)
