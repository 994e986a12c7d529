-- The standard library's words that the proofs here share.
pub use Rattle.std.proofs.Common.{Bool, List, None, Option, Some, [], ap, append-nil, append_assoc, arith, cond, drop, eqb, false, get_or, inl, inr, is_some, length, length-append, min, refl, replicate, rules, set, subst, suc, sym, take, true, zero, ℕ, ◌%◌, ◌*◌, ◌++◌, ◌+◌, ◌-◌, ◌/◌, ◌<◌, ◌∙◌, ◌∷◌, ◌≡◌, ◌≢◌, ◌≤◌, ◌⊎◌}
pub use Rattle.std.proofs.Math.Nat.{div-add-mod, div-mul-le_self, lt-div-mul-add, mul-le-mul_right, zero-div}
pub use Rattle.std.proofs.Math.Path.{fun_ext}
pub use Rattle.std.proofs.Math.Seq.{get_or-append_seam, take-length}
pub use Rattle.std.proofs.lemmas.Bool.{cases_Bool, cases_eq, cases_lt, eq-eqb, eqb-true, le-leb, le-ltb, lt-leb, lt-ltb, ne_eqb, true≢false}
pub use Rattle.std.proofs.lemmas.Grind.{common_steps}
pub use Rattle.std.proofs.lemmas.List.{drop_all, drop_more, ext_get_or, get_or-drop, get_or-replicate, get_or-set_other, get_or-set_same, get_or-take, get_or_append_left, get_or_past, length-replicate, length-set, length-take, length-take-le, take-append-drop, take_all, take_more}
pub use Rattle.std.proofs.lemmas.List.Elements.{All-append, All-cons, All-drop, All-from_get_or, All-get_or, All-head, All-nil, All-tail, All-take}
pub use Rattle.std.proofs.lemmas.List.Sums.{count_by-le-length, count_by_more_no, count_by_more_yes, length-filter, prefix_len_passes, sum_by-cons, sum_by-set}
pub use Rattle.std.proofs.lemmas.Nat.{div-mul-add, le-div, mod-mul-add, mul-le, row_fits}
pub use Rattle.std.proofs.lemmas.Option.{same_Some, slice_get_past, slice_get_read}
pub use Rattle.std.proofs.lemmas.Result.{err_from_is_err_and}
pub use Rattle.std.specs.List.{All, Contains, filter, flat_map, sum}
pub use Rattle.std.specs.Prelude.{Err, IfOk, IfSome, IsErr, Ok, OnErr, OnOk, Result, if◌then◌else◌, nat_lt, not, option_map, slice_get, slice_index_or, slice_set, ◌&&◌, ◌==◌, ◌||◌}
