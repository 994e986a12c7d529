-- What a call did in which power was not cut: one of four things, whatever it was
-- asked and answered.
use Rattle.ee_core.proofs.Words.{◌≡◌, Bool, true, false, Ok, Err, List, [], ◌∷◌, refl}
use Rattle.ee_core.proofs.Sets.{Device, Change, Put, Forget}
use Rattle.ee_core.proofs.Calls.{ErasesOne, Appends, Moves, each_forgotten, puts_of}
use Rattle.ee_core.proofs.Emptying.{clear_moves}
use Rattle.ee_core.specs.declared.variables.WriteAllFault.TheVariants as all
use Rattle.ee_core.specs.Runs.{Call, Wrote, WroteAll, Forgot, Cleared, Cleaned, DidRead, Follows, changes_of_call, is_cut, is_transfer}
use Rattle.ee_core.specs.declared.variables.ClearFault.TheVariants as clear
use Rattle.ee_core.specs.declared.variables.ForgetFault.TheVariants as forget
use Rattle.ee_core.specs.declared.variables.WriteFault.TheVariants as write
use Rattle.ee_core.specs.declared.variables.Written.TheVariants.{Appended, Moved}

module _ (holds : Bool → List Change → Type 0) (old new : Device)
    (nothing : new ≡ old → holds false [])
    (appends : (change : Change) → Appends old change new → holds false (change ∷ []))
    (moves : (changes : List Change) → Moves old changes new → holds true changes) where
  effect : (call : Call) → is_cut call ≡ false → Follows call old new
      → (call ≡ Cleaned (Ok true) → ErasesOne old new → holds false [])
      → holds (is_transfer call) (changes_of_call call)
  effect (Wrote address value (Ok Appended)) _ done _ = appends (Put address value) done
  effect (Wrote address value (Ok Moved)) _ done _ = moves (Put address value ∷ []) done
  effect (Wrote _ _ (Err write.Off)) _ done _ = nothing done.1
  effect (Wrote _ _ (Err write.Full)) _ done _ = nothing done.2
  effect (Wrote _ _ (Err write.Spent)) _ done _ = nothing done.3
  effect (Wrote _ value (Err write.Memory)) _ done _ = nothing done.2
  effect (Wrote address value (Err write.Cut)) whole _ _ = absurd cc
  effect (WroteAll [] (Ok Appended)) _ done _ = nothing done.1
  effect (WroteAll (put ∷ []) (Ok Appended)) _ done _ = appends (Put put.address put.value) done
  effect (WroteAll (first ∷ second ∷ more) (Ok Appended)) _ done _ = absurd done
  effect (WroteAll puts (Ok Moved)) _ done _ = moves (puts_of puts) done.1
  effect (WroteAll puts (Err all.Off)) _ done _ = nothing done.1
  effect (WroteAll puts (Err (all.Twice place))) _ done _ = nothing done.2
  effect (WroteAll puts (Err all.Full)) _ done _ = nothing done.3
  effect (WroteAll puts (Err all.Spent)) _ done _ = nothing done.4
  effect (WroteAll puts (Err all.Memory)) _ done _ = nothing done.3
  effect (WroteAll puts (Err all.Cut)) whole _ _ = absurd cc
  effect (Forgot address (Ok Appended)) _ done _ = appends (Forget address) done
  effect (Forgot address (Ok Moved)) _ done _ = moves (Forget address ∷ []) done
  effect (Forgot address (Err forget.Off)) _ done _ = nothing done.1
  effect (Forgot address (Err forget.Absent)) _ done _ = nothing done.2
  effect (Forgot address (Err forget.Spent)) _ done _ = nothing done.3
  effect (Forgot address (Err forget.Cut)) whole _ _ = absurd cc
  effect (Cleared (Ok true)) _ done _ = moves each_forgotten (clear_moves old new done)
  effect (Cleared (Ok false)) _ done _ = nothing done.2
  effect (Cleared (Err clear.Off)) _ done _ = nothing done.1
  effect (Cleared (Err clear.Spent)) _ done _ = nothing done.3
  effect (Cleared (Err clear.Cut)) whole _ _ = absurd cc
  effect (Cleaned (Ok true)) _ done erases = erases refl done
  effect (Cleaned (Ok false)) _ done _ = nothing done.2
  effect (Cleaned (Err write.Off)) _ done _ = nothing done.1
  effect (Cleaned (Err write.Full)) _ done _ = absurd done
  effect (Cleaned (Err write.Spent)) _ done _ = absurd done
  effect (Cleaned (Err write.Memory)) _ done _ = absurd done
  effect (Cleaned (Err write.Cut)) whole _ _ = absurd cc
  effect (DidRead address answer) _ done _ = nothing done.1

-- A property of whether the map moved, and of the changes that were made, holds of the call if it
-- holds where the call left the device as it was, appended a change, moved the map with some, or
-- was a clean step that erased a page.
pub by_effect : (holds : Bool → List Change → Type 0) (call : Call) (old new : Device)
    → is_cut call ≡ false → Follows call old new → (new ≡ old → holds false [])
    → ((change : Change) → Appends old change new → holds false (change ∷ []))
    → ((changes : List Change) → Moves old changes new → holds true changes)
    → (call ≡ Cleaned (Ok true) → ErasesOne old new → holds false [])
    → holds (is_transfer call) (changes_of_call call)
by_effect holds call old new whole done nothing appends moves erases =
    effect holds old new nothing appends moves call whole done erases
