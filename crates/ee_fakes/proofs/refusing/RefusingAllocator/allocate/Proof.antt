-- The request is counted, and then refused or answered as the inner allocator answers
-- it. Assumes `Logic`.
use Rattle.ee_fakes.proofs.Walking.{◌^◌, List, ◌<◌, ◌≡◌, ℕ, ◌+◌, Bool, true, false, [], ◌∷◌, Ok, Err, refl, w64, proved, Al, α, seen, token, Answer, answer_val, Answer-typed, Answer-Ok, Answer-err, Takes, at_takes, Answered, Takes-goes, Takes-gives, answers, Ty, Args, Fn, a_type, dnil, dcons, Val, vbool, inst_fn, id⊢, ftrue, flft, size, align, capped, up, ‵, raw, ◌⊛◌, some, later, given, prop, at_ret, Sq, ◌$◌, ◌∵◌, !, qed, move, keep, use0, use1, use2, split, join, group, pick, learn, fsplit, fjoin, suffices, await, done, agg, enter, lit, addr, stop, fld, no_more, and_then, first, branches, skips, exec, returns, returns_within, alloc_all, pass_all, free_all, look_at, get, through, sets, lands_as, env, ◌⊑◌, ⊑_trans, fact, tables, usize, RefOf, yes, unhide, bounded, param, uint_vals, uint_Tells, owns, block_ptr, shr_vals, Slot, plain, types_at, heard, nothing, calls_at, Ended, Clauses, Contract, Triple, Item, Lft, Share, Bor, Ura, ent, WpFn, vint, Logic, Model, Running, MachineTables, takes_key, framed, Stays, stay_dropped, walk_of, ends_at, Goes-dropped}
use Rattle.std.specs.Allocator.{block_if_ok}
use Rattle.ee_fakes.proofs.Asking.{Asks, asks_at, is-asked, has-answered}
use Rattle.std.proofs.VecSteps.Shapes.{after}
use Rattle.ee_fakes.specs.contracts.refusing.Refusing.{the_row}
use Rattle.ee_fakes.proofs.refusing.is_refused.Met.{met as is_refused-met}
use Rattle.ee_fakes.proofs.refusing.is_refused.Symbol as symbol
use Rattle.ee_fakes.specs.contracts.refusing.RefusingAllocator.allocate as f
use Rattle.ee_fakes.specs.contracts.refusing.RefusingAllocator.allocate.Key as key
use Rattle.ee_fakes.proofs.refusing.RefusingAllocator.allocate.Statement.{statement}
use Rattle.ee_fakes.proofs.refusing.RefusingAllocator.allocate.Code as code

module _ (Z : Al) where
  abbrev args : Args
  args = bounded (a_type ∷ []) (Z.row, tt) (dcons Z.d (dcons Z.drops dnil))

  abbrev here : Fn
  here = inst_fn args code.function

  abbrev self : Slot 2
  self = RefOf (0 ∷ []) tt (plain (λ _. the_row (param 0 Z.row))) (λ _. tt)

  abbrev ended : Ended
  ended = f.ended Z.row Z.g Z.d Z.drops

  abbrev stayed : Stays ended.signature.params ended.kept
  stayed = (
    stay_dropped self yes,
    (stay_dropped (plain (λ _. usize)) yes, (stay_dropped (plain (λ _. usize)) yes, tt)),
  )

module _ (Z : Al) {M : Type 1} {𝓤 : Ura M} (𝓛 : Logic 𝓤) (𝓜 : Model 𝓤 𝓛.H)
    (𝓡 : Running 𝓤 𝓛.H 𝓜) where
  abbrev held : Clauses 𝓤 (ended Z)
  held = f.clauses Z.row Z.g Z.d Z.drops 𝓛 𝓜.mem 𝓡.returns

  abbrev W : Contract 𝓤
  W = walk_of 𝓛 (ended Z) (stayed Z) held

  abbrev Asked : Contract 𝓤
  Asked = Asks 𝓛 𝓜.mem 𝓡.returns

  abbrev Took : Contract 𝓤
  Took = Takes Z 𝓛 𝓜.mem 𝓡.returns

  abbrev 𝓣 : MachineTables 𝓤 𝓛.H 𝓜
  𝓣 = tables 𝓤 𝓛.H 𝓜 𝓡 𝓡.env

  module _ (κ κ' : Lft) (q q' : Share) (inn : κ ⊑ κ') (r : Bor (the_row Z.row).Denot) (n al : ℕ)
      (τ : Ty) where
    abbrev y : W.Ghost
    y = (
      (
        (κ, (κ', tt)),
        (q, (q', tt)),
        (inn, tt),
        (r, (n, (al, tt))),
        (shr_vals r, (vint w64 n ∷ [], (vint w64 al ∷ [], tt))),
      ),
      τ,
    )

    -- the inner allocator, and its address; the address of the count of requests
    abbrev inner : Z.row.Denot
    inner = r.now.inner

    abbrev at : ℕ × ℕ
    at = (r.ref_ptr.0, r.ref_ptr.1 + up (align (α Z)) 0)

    abbrev left : ℕ × ℕ
    left = (r.ref_ptr.0, r.ref_ptr.1 + up 8 (up (align (α Z)) 0 + size (α Z)))

    abbrev Said : Type 0
    Said = (capped (size τ) ≡ n) × (capped (align τ) ≡ al)

    abbrev tokens : List (Item 𝓤)
    tokens = ‵ (flft κ q) ∷ (‵ (flft κ' q') ⊛ ‵ ftrue) ∷ []

    answered : (v : Val) (x : Answer.Denot)
        → Sq 𝓛 (‵ (Answer.own_val x (v ∷ [])) ∷ ‵ (block_if_ok (token Z inner) τ x) ∷ tokens)
        (prop (W.post y v))
    answered v x =
        suffices ! _
        (ends_at 𝓛 (ended Z) (stayed Z) held y v x (tt, (tt, (tt, tt))) (tt, (tt, (tt, tt)))) $
        nothing ! $ nothing ! $ fjoin ! $ nothing ! $ fjoin ! $ nothing ! $ fjoin ! $
        -- [nothing of the parameters; the answer; its block; the tokens]
        move ! (3 ∷ 4 ∷ []) $ join ! $ group ! 3 $ done !

    refused : Sq 𝓛 tokens (prop (W.post y (answer_val false 0 0)))
    refused =
        nothing ! $ use0 𝓛 (‵ (Answer.own_val (Err (record {})) (answer_val false 0 0 ∷ [])))
        (Answer-err 𝓛) $ answered (answer_val false 0 0) (Err (record {}))

    walk : Triple 𝓤 (𝓣.C symbol.name) Asked → Triple 𝓤 (𝓣.C (takes_key Z)) Took → n < 2 ^ 64
        → al < 2 ^ 64 → ent 𝓤 (W.pre y) (WpFn 𝓤 𝓛.H 𝓣.C 𝓣.Λ (here Z) (W.args y) (W.post y))
    walk asked took fn fal =
        qed 𝓛
        (((‵ (flft κ q) ⊛ ‵ (flft κ' q') ⊛ ‵ ftrue) ⊛ ‵
        (owns (types_at (ended Z).signature.params y.0.0) y.0.3 y.0.4))
        ∷
        (raw (fact 𝓤 (κ' ⊑ Z.row.lives)) ⊛ raw (fact 𝓤 Said)) ∷ []) ∵
        move ! (1 ∷ []) $ split ! $ heard ! _ (λ outlives. heard ! Said (λ said.
        split ! $ split ! $ move ! (2 ∷ []) $ fsplit ! $ fsplit ! $ move ! (1 ∷ []) $ unhide ! $
        fsplit ! $ fsplit ! $
        use1 𝓛 (‵ (seen Z κ at inner)) (id⊢ 𝓤 _) $ move ! (1 ∷ []) $ fsplit ! $
        -- [the count; nothing; the inner allocator; what pads them; the rest of the
        -- parameters, twice; the tokens]
        keep ! (0 ∷ 6 ∷ 2 ∷ 7 ∷ []) $
        enter ! _ _ _ _ _ $ alloc_all ! (λ l. pass_all ! refl
        ((tt, tt), ((tt, record { fits = fn }), ((tt, record { fits = fal }), tt))) $
        sets ! (addr ! (through ! refl (fld ! refl (stop !)))) refl (tt, tt) $
        use2 𝓛 (raw (Asked.pre (asks_at 𝓛 𝓜.mem 𝓡.returns κ q left)))
        (is-asked 𝓛 𝓜.mem 𝓡.returns κ q left) $
        calls_at ! (framed 𝓤 𝓛.H 𝓜 𝓣) Asked asked (asks_at 𝓛 𝓜.mem 𝓡.returns κ q left)
        (and_then ! (get ! refl) (no_more !)) (λ u.
        use1 𝓛 (later (some (λ (b : Bool). given (u ≡ vbool b) (‵ (flft κ q)))))
        (has-answered 𝓛 𝓜.mem 𝓡.returns κ q left u) $
        await ! tt $ pick ! (λ b. learn ! (λ is_bool. lands_as ! is_bool refl (tt, tt) $
        -- [a token; the inner allocator; the other token]
        first ! $ branches ! (get ! refl)
        (λ refuses. sets ! (agg ! (no_more !)) refl (tt, tt) $
        sets ! (agg ! (and_then ! (lit ! tt) (and_then ! (get ! refl) (no_more !)))) refl
        (Answer-typed false 0 0) $
        returns_within ! (W.post y) refl (look_at ! 0 refl) $ free_all ! refl $ keep ! (0 ∷ 2 ∷ [])
        $ refused)
        (λ passes. skips ! $ exec ! 𝓣.C 𝓣.Λ (env (here Z).locals l) (after 3 (here Z).body)
        (at_ret _ (W.post y)) $
        sets ! (addr ! (through ! refl (fld ! refl (stop !)))) refl (tt, tt) $ move ! (1 ∷ 0 ∷ []) $
        use2 𝓛 (raw (Took.pre (at_takes Z 𝓛 𝓜.mem 𝓡.returns κ q at inner n al τ)))
        (Takes-goes Z 𝓛 𝓜.mem 𝓡.returns κ q at inner (⊑_trans κ κ' Z.row.lives inn outlives) n
        al τ said.0 said.1 fn fal) $
        calls_at ! (framed 𝓤 𝓛.H 𝓜 𝓣) Took took (at_takes Z 𝓛 𝓜.mem 𝓡.returns κ q at inner n al τ)
        (and_then ! (get ! refl)
        (and_then ! (get ! refl) (and_then ! (get ! refl) (no_more !)))) (λ v.
        use1 𝓛 (later (raw (Answered Z 𝓛 𝓜.mem 𝓡.returns inner τ v) ⊛ ‵ (flft κ q)))
        (Takes-gives Z 𝓛 𝓜.mem 𝓡.returns κ q at inner n al τ v) $ await ! tt $ split ! $
        answers Z ! 𝓜.mem 𝓡.returns inner τ v
        (λ b o is_block. fjoin ! $ lands_as ! is_block refl (Answer-typed true b o) $ returns !
        (look_at ! 0 refl) $ free_all ! refl $
        use0 𝓛 (‵ (Answer.own_val (Ok (block_ptr b o)) (answer_val true b o ∷ [])))
        (Answer-Ok 𝓛 b o) $ answered (answer_val true b o) (Ok (block_ptr b o)))
        (λ is_err. lands_as ! is_err refl (Answer-typed false 0 0) $ returns ! (look_at ! 0 refl) $
        free_all ! refl $ refused)))))))))

pub allocate_spec : {M : Type 1} → statement M
allocate_spec 𝓤 𝓛 𝓜 𝓡 wired Y L g d d' met _ =
    let Z : Al = record { row = Y; laws = L; g = g; d = d; drops = d' } in
    let number = Goes-dropped 𝓛 2 (plain (λ _. usize)) yes (λ κs x w. refl) in
    proved 𝓛 (ended Z) (stayed Z) (held Z 𝓛 𝓜 𝓡) 𝓜 𝓡
    (Goes-dropped 𝓛 2 (self Z) yes (λ κs x w. refl), (number, (number, tt)))
    (key.name (args Z)) (here Z) (code.unfolded 𝓤 𝓛.H 𝓜 𝓡 wired (Y, tt) d d')
    (λ κs. (shr_vals, (uint_vals w64, (uint_vals w64, tt))))
    (λ κs. ((λ r vs s. s.0), (uint_Tells w64, (uint_Tells w64, tt))))
    (λ κs qs bounds a τ are. walk Z 𝓛 𝓜 𝓡 κs.0 κs.1.0 qs.0 qs.1.0 bounds.0 a.0 a.1.0 a.1.1.0 τ
    (is_refused-met 𝓤 𝓛 𝓜 𝓡 (code.calls-ee_fakes::refusing::is_refused 𝓡.env wired))
    (met.allocate d') are.1.0.1 are.1.1.0.1)
