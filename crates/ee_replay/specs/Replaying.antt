-- What a script leaves of an image, and why it can't be replayed.
use Rattle.std.specs.Prelude.{◌≡◌, ◌⊎◌, ◌+◌, ℕ, false, List}
use Rattle.ee_flash.specs.Device.{Device, blank_device}
use Rattle.ee_flash.specs.Laws.{all_completed}
use Rattle.ee_flash.specs.Size.{Size}
use Rattle.ee_core.specs.Points.{Point}
use Rattle.ee_core.specs.Openings.{IsFormatted, Opens}
use Rattle.ee_core.specs.Runs.{WearsAtMost}
use Rattle.ee_core.specs.State.{State, WearRises, formatted_state, state_of}
use Rattle.ee_core.specs.StepLists.{steps_of_format, steps_of_open}
use Rattle.ee_image.specs.Text.{at_rest, image_text}
use Rattle.ee_interface.specs.declared.script.command.Command.{Command}
use Rattle.ee_interface.specs.Script.Script.{IsFirstBadCommandLine}
use Rattle.ee_interface.specs.declared.replay_fault.ReplayFault.{ReplayFault}
use Rattle.ee_interface.specs.declared.replay_fault.ReplayFault.TheVariants.{Image, Open, Script, Memory, Read}
use Rattle.ee_image_store.specs.Erases.{ErasesRise, erases_of_all}
use Rattle.ee_image_store.specs.Opening.{IsOpenFault, IsStoreText, SpellsDevice}
use Rattle.ee_image_store.specs.Machine.{was_cut}
use Rattle.ee_image_store.specs.Trace.{moves}
use Rattle.ee_replay.specs.Report.{IsDeskReported}
use Rattle.ee_replay.specs.Lines.{point_behind}
use Rattle.ee_replay.specs.Serving.{IsMade, IsSound, desk_of, report_of, serving_on}

-- The text is that of the device on the desk, which is of this size: its image is legal, and where
-- a store is open it is on, and no mark is left to set.
pub record IsDeskLeft (size : Size) (text : List ℕ) (point : Point) : Type 0 where
  pub spelled : SpellsDevice text point.device
  pub sound : IsSound point
  pub same_size : point.device.size ≡ size

-- From a store that is open with this state, on a device of this size, the script was answered with
-- this report, as the report machine answers it; and the text is that of the device at the end,
-- with what the machine came to.
pub record IsScriptRun (size : Size) (start : State) (text new_image reported : List ℕ)
    : Type 0 where
  pub last : Point
  pub left : IsDeskLeft size new_image last
  pub report : IsDeskReported size start text (desk_of last) reported

-- What lines leave of a store that is open on this device: the text of the image, and the report.
abbrev pub leaves_of : Device → List Command → List ℕ × List ℕ
leaves_of store commands =
    (image_text (point_behind commands (serving_on store)).device, report_of store commands)

-- the script was run on this store, line by line, and left what the function says
pub record IsRunOn (store : Device) (text new_image reported : List ℕ) : Type 0 where
  pub run : IsScriptRun store.size (state_of store) text new_image reported
  pub made : IsMade store run.report.commands run.report.answers run.last
  pub leaves : (new_image, reported) ≡ leaves_of store run.report.commands

-- the store that is opened of a device on which no cut is to come
abbrev pub opened_of : Device → Device
opened_of device = all_completed (steps_of_open device) device

-- The script was run on the store that was opened of the device whose image the first text spells,
-- line by line. The new image and the report are those that the function gives, cuts included, of
-- that device, on and with no cut to come, and of the lines. Where none was cut, each move left the
-- pages of a set to be erased, and nothing else did; and no page was erased more often than at
-- every second move, by where it stood.
pub record IsReplayed (old_image text new_image reported : List ℕ) : Type 0 where
  pub device : Device
  pub old : IsStoreText old_image device
  pub rests : device ≡ at_rest device
  pub run : IsScriptRun device.size (state_of device) text new_image reported
  pub leaves : (new_image, reported) ≡ leaves_of (opened_of device) run.report.commands
  pub opened : Device
  pub opens : Opens device opened
  pub made : IsMade opened run.report.commands run.report.answers run.last
  pub erases : was_cut run.report.answers ≡ false
      → ErasesRise (erases_of_all device.size run.report.answers) device run.last.device
  pub wears : was_cut run.report.answers ≡ false → (page : ℕ)
      → WearsAtMost (moves run.report.answers) page device run.last.device

-- how often pages of a fresh device were erased, or wait to be: those of a set for each move
pub record IsWornBy (size : Size) (pages : ℕ) (last : Device) : Type 0 where
  pub erased : ℕ
  pub wear : WearRises erased (blank_device size) last
  pub rise : erased + (state_of last).pending ≡ pages

-- the store that is formatted on a new device of this size
abbrev pub formatted_of : Size → Device
formatted_of size = all_completed (steps_of_format (blank_device size)) (blank_device size)

-- The script was run on a store with nothing in it, just formatted, on a device of this size of
-- which no page was erased, line by line, and left what the function says. Where none was cut, each
-- move left the pages of a set to be erased, and nothing else did.
pub record IsTried (size : Size) (text new_image reported : List ℕ) : Type 0 where
  pub run : IsScriptRun size formatted_state text new_image reported
  pub fresh : Device
  pub formats : IsFormatted (blank_device size) fresh
  pub made : IsMade fresh run.report.commands run.report.answers run.last
  pub leaves : (new_image, reported) ≡ leaves_of (formatted_of size) run.report.commands
  pub worn : was_cut run.report.answers ≡ false
      → IsWornBy size (erases_of_all size run.report.answers) run.last.device

-- why a script isn't answered: its first bad line, or want of memory
abbrev pub IsRunFault : List ℕ → ReplayFault → Type 0
IsRunFault text (Image fault) = ⊥
IsRunFault text (Open fault) = ⊥
IsRunFault text (Script n) = IsFirstBadCommandLine text n
IsRunFault text Memory = Unit {0}
IsRunFault text Read = ⊥

-- why a script isn't replayed, the first cause that applies: no store is opened, or one is and the
-- script isn't answered
abbrev pub IsReplayFault : List ℕ → List ℕ → ReplayFault → Type 0
IsReplayFault old_image text fault =
    IsOpenFault old_image fault
    ⊎ (((device : Device) × IsStoreText old_image device) × IsRunFault text fault)
