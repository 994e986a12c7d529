-- The names that the walks of this crate cite.
pub use Rattle.std.proofs.Common.{◌≡◌, ℕ, ◌+◌, ◌^◌, ◌<◌, Bool, true, false, List, [], ◌∷◌, Ok, Err, refl, ap, w64, Bor}
pub use Rattle.std.proofs.raw_atomic.Walks.{proved}
pub use Rattle.std.proofs.alloc.Calls.{Al, α, seen, token, Answer, answer_val, Answer-typed, Answer-Ok, Answer-err, takes_key, Takes, at_takes, Answered, Takes-goes, Takes-gives, answers, gives_key, Gives, at_gives, Gives-goes, Gives-Gives}
pub use seplogic.Ra.Ura.{Ura}
pub use mir.Syntax.{Ty, Args, Fn, a_type, dnil, dcons}
pub use mir.Val.{Val, vunit, vbool, vint, vptr}
pub use mir.MapTy.{inst_fn}
pub use base.Logic.{SProp, ent, ex, sep, guard, id⊢, never_e}
pub use base.Fml.{Lft, Share, ftrue, ffalse, fsep, froom, flft}
pub use prog.Memory.{Memory, size, align, capped, up}
pub use prog.Model.{Model}
pub use prog.Routine.{Routine}
pub use prog.Wp.{WpFn}
pub use types.Logic.{Logic, sem}
pub use types.Kit.{Item, ‵, raw, ◌⊛◌, some, later, given, prop, at_ret, Sq, ◌$◌, ◌∵◌, !, qed, by, move, keep, use0, use1, use2, split, split3, join, group, pick, learn, fsplit, fjoin, feq_i, feq_l, suffices, show, check, await, updating, now as at_once, done}
pub use types.Part.{agg}
pub use types.Run.{enter, of_opd, lit, unit_lit, addr, stop, fld, no_more, and_then, first, branches, skips, exec, returns, returns_within}
pub use types.ByLocal.{alloc_all, pass_all, free_all, look_at, get, through, sets, lands_as, env}
pub use contract.BorrowLft.{◌⊑◌, ⊑_trans}
pub use contract.Monad.{Fun, fact}
pub use contract.Running.{MachineTables, Running, tables}
pub use denote.Builtin.{u64, usize, bool, RawPtr, RefOf}
pub use denote.Exit.{yes}
pub use denote.Memory.{hidden_shr}
pub use denote.Opens.{unhide}
pub use denote.Param.{bounded, param}
pub use denote.Plain.{uint_vals, uint_Tells}
pub use denote.RattleType.{RattleType, owns}
pub use denote.RawPtr.{Ptr, block_ptr, null_ptr, rawptr_vals, rawptr_Tells}
pub use denote.Ref.{shr_vals}
pub use denote.Signature.{Slot, plain, types_at}
pub use denote.Steps.{heard, nothing, only}
pub use denote.Triple.Call.{calls_at}
pub use denote.Triple.Clauses.{Ended, Clauses}
pub use denote.Triple.Spec.{triple_of}
pub use denote.Triple.Statement.{Contract, Triple}
pub use denote.Triple.Table.{framed}
pub use denote.Triple.Walked.{Stays, stay_dropped, walk_of, ends_at, Goes-dropped}
