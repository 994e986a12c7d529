-- What is told of the sizes of a part, one size further, and why none is told.
use Rattle.std.proofs.Common.{◌≡◌, ◌≢◌, ◌⊎◌, ℕ, ◌+◌, ◌<◌, List, [], ◌∷◌, ◌++◌, length, take, get_or, ap, ◌∙◌, arith, rules}
use Rattle.std.proofs.lemmas.Grind.{common_steps}
use Rattle.std.proofs.lemmas.List.{take_more, length-take-le, append-nil}
use Rattle.ee_flash.specs.Size.{size_of, slot_count}
use Rattle.ee_text.specs.Line.{line_of}
use Rattle.ee_check.specs.declared.change.Change.{Change}
use Rattle.ee_plan.specs.Planner.Rounds.{IsDemand, unused_situation}
use Rattle.ee_plan.specs.declared.planner.demand.Demand.{Demand}
use Rattle.ee_interface.specs.declared.script.session.ScriptFault.{ScriptFault}
use Rattle.ee_interface.specs.Fault.{fault_of_script}
use Rattle.ee_interface.specs.declared.fault.Fault.{Fault}
use Rattle.ee_interface.specs.declared.fault.Fault.TheVariants.{Memory}
use Rattle.ee_commands.specs.Planning.{IsTrace, IsTraceFault}
use Rattle.ee_commands.specs.Sizing.{AreDemands, IsSizingFault, size_lines, sizing_text}
use Rattle.ee_commands.proofs.OneTask.{one_name, one_trace_fault, other_cause, trace_memory}

-- ---- one size further

pub demands_grow : (words : ℕ) (trace : List Change) (pages next : ℕ) (demands : List Demand)
    (demand : Demand)
    → AreDemands words trace pages demands → next ≡ pages + length demands
    → IsDemand (unused_situation (slot_count (size_of next words))) trace demand
    → AreDemands words trace pages (demands ++ demand ∷ [])
demands_grow words trace pages next [] demand are is one = search rules
demands_grow words trace pages next (first ∷ demands) demand are is one =
    (are.0, demands_grow words trace (pages + 1) next demands demand are.1 (omega arith) one)

lines_append : (words cycles changes pages next : ℕ) (demands : List Demand) (demand : Demand)
    → next ≡ pages + length demands
    → size_lines words cycles changes pages (demands ++ demand ∷ [])
    ≡ size_lines words cycles changes pages demands
    ++ line_of (sizing_text words cycles changes next demand)
lines_append words cycles changes pages next [] demand is = search (rules, append-nil)
lines_append words cycles changes pages next (first ∷ demands) demand is =
    grind (
      arith,
      common_steps,
      (lines_append words cycles changes (pages + 1) next demands demand (omega arith)),
    )

-- ---- why none is told

pub cause_of_trace : (text : List ℕ) (cause : Fault) (fault : ScriptFault) → cause ≢ Memory
    → IsSizingFault text cause → IsTraceFault text fault
    → (fault_of_script fault ≡ cause) ⊎ (fault_of_script fault ≡ Memory)
cause_of_trace text cause fault some h is = search (rules, one_name, one_trace_fault, other_cause)

-- a script that gives a trace has no cause but want of memory
pub only_want_of_memory : (text : List ℕ) (trace : List Change) (cause : Fault) → IsTrace text trace
    → cause ≢ Memory → IsSizingFault text cause → ⊥
only_want_of_memory text trace cause is some h =
    some (h.fault_is ∙ ap fault_of_script (trace_memory text trace h.cause is h.applies))

-- the lines so far, and that of one size more
pub sizes_grow : (words cycles changes pages n : ℕ) (demands : List Demand) (d : Demand)
    (old new : List ℕ)
    → n < length demands → pages ≡ n → old ≡ size_lines words cycles changes 1 (take n demands)
    → new ≡ old ++ line_of (sizing_text words cycles changes (pages + 1) (get_or demands n d))
    → new ≡ size_lines words cycles changes 1 (take (n + 1) demands)
sizes_grow words cycles changes pages n demands d old new within counted so_far written =
    search (rules, length-take-le, lines_append, take_more)
