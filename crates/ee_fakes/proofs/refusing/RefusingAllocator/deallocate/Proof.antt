-- A block goes back to the inner allocator. Assumes `Logic`.
use Rattle.ee_fakes.proofs.Walking.{Sq, froom, by, ffalse, never_e, !, Al, Args, Bor, Clauses, Contract, Ended, Fn, Gives, Gives-Gives, Gives-goes, Goes-dropped, Item, Lft, List, Logic, MachineTables, Model, Ptr, RawPtr, RefOf, Running, Share, Slot, Stays, Triple, Ty, Ura, Val, WpFn, [], a_type, addr, align, alloc_all, and_then, at_gives, await, block_ptr, bounded, calls_at, capped, dcons, dnil, done, ends_at, ent, enter, fact, feq_i, fjoin, fld, flft, framed, free_all, fsep, fsplit, ftrue, get, given, gives_key, group, heard, id⊢, inst_fn, join, keep, lands_as, later, learn, look_at, move, no_more, nothing, null_ptr, of_opd, owns, param, pass_all, plain, prop, proved, qed, raw, rawptr_Tells, rawptr_vals, refl, returns, seen, sets, shr_vals, size, split, split3, stay_dropped, stop, suffices, tables, through, token, types_at, uint_Tells, uint_vals, unhide, unit_lit, up, use1, usize, vint, vunit, w64, walk_of, yes, α, ‵, ℕ, ⊑_trans, ◌$◌, ◌+◌, ◌<◌, ◌^◌, ◌∵◌, ◌∷◌, ◌≡◌, ◌⊑◌, ◌⊛◌}
use Rattle.ee_fakes.specs.contracts.refusing.Refusing.{the_row}
use Rattle.ee_fakes.specs.contracts.refusing.RefusingAllocator.deallocate as f
use Rattle.ee_fakes.specs.contracts.refusing.RefusingAllocator.deallocate.Key as key
use Rattle.ee_fakes.proofs.refusing.RefusingAllocator.deallocate.Statement.{statement}
use Rattle.ee_fakes.proofs.refusing.RefusingAllocator.deallocate.Code as code

module _ (Z : Al) where
  abbrev args : Args
  args = bounded (a_type ∷ []) (Z.row, tt) (dcons Z.d (dcons Z.drops dnil))

  abbrev here : Fn
  here = inst_fn args code.function

  abbrev self : Slot 2
  self = RefOf (0 ∷ []) tt (plain (λ _. the_row (param 0 Z.row))) (λ _. tt)

  abbrev ended : Ended
  ended = f.ended Z.row Z.g Z.d Z.drops

  abbrev stayed : Stays ended.signature.params ended.kept
  stayed = (
    stay_dropped self yes,
    (
      stay_dropped (plain (λ _. RawPtr)) yes,
      (stay_dropped (plain (λ _. usize)) yes, (stay_dropped (plain (λ _. usize)) yes, tt)),
    ),
  )

module _ (Z : Al) {M : Type 1} {𝓤 : Ura M} (𝓛 : Logic 𝓤) (𝓜 : Model 𝓤 𝓛.H)
    (𝓡 : Running 𝓤 𝓛.H 𝓜) where
  abbrev held : Clauses 𝓤 (ended Z)
  held = f.clauses Z.row Z.g Z.d Z.drops 𝓛 𝓜.mem 𝓡.returns

  abbrev W : Contract 𝓤
  W = walk_of 𝓛 (ended Z) (stayed Z) held

  abbrev Gave : Contract 𝓤
  Gave = Gives Z 𝓛 𝓜.mem 𝓡.returns

  abbrev 𝓣 : MachineTables 𝓤 𝓛.H 𝓜
  𝓣 = tables 𝓤 𝓛.H 𝓜 𝓡 𝓡.env

  module _ (κ κ' : Lft) (q q' : Share) (inn : κ ⊑ κ') (r : Bor (the_row Z.row).Denot) (n al : ℕ)
      (τ : Ty) where
    abbrev y : Ptr → W.Ghost
    y p = (
      (
        (κ, (κ', tt)),
        (q, (q', tt)),
        (inn, tt),
        (r, (p, (n, (al, tt)))),
        (shr_vals r, (rawptr_vals p, (vint w64 n ∷ [], (vint w64 al ∷ [], tt)))),
      ),
      τ,
    )

    -- the inner allocator, and its address
    abbrev inner : Z.row.Denot
    inner = r.now.inner

    abbrev at : ℕ × ℕ
    at = (r.ref_ptr.0, r.ref_ptr.1 + up (align (α Z)) 0)

    abbrev Said : Type 0
    Said = (capped (size τ) ≡ n) × (capped (align τ) ≡ al)

    abbrev tokens : List (Item 𝓤)
    tokens = ‵ (flft κ q) ∷ (‵ (flft κ' q') ⊛ ‵ ftrue) ∷ []

    given_back : (p : Ptr) → Sq 𝓛 tokens (prop (W.post (y p) vunit))
    given_back p =
        suffices ! _
        (ends_at 𝓛 (ended Z) (stayed Z) held (y p) vunit tt (tt, (tt, (tt, (tt, tt))))
        (tt, (tt, (tt, (tt, tt))))) $
        join ! $ nothing ! $ feq_i ! (List Val) (vunit ∷ []) (vunit ∷ []) refl $
        nothing ! $ nothing ! $ fjoin ! $ nothing ! $ fjoin ! $ nothing ! $ fjoin ! $ nothing ! $
        fjoin ! $
        -- [nothing of the parameters; the result; no `ensures`; the tokens]
        move ! (3 ∷ 0 ∷ 1 ∷ []) $ group ! 3 $ done !

    walk : Triple 𝓤 (𝓣.C (gives_key Z)) Gave → n < 2 ^ 64 → al < 2 ^ 64 → (p : Ptr)
        → ent 𝓤 (W.pre (y p)) (WpFn 𝓤 𝓛.H 𝓣.C 𝓣.Λ (here Z) (W.args (y p)) (W.post (y p)))
    walk gave fn fal null_ptr =
        qed 𝓛
        (((‵ (flft κ q) ⊛ ‵ (flft κ' q') ⊛ ‵ ftrue) ⊛ ‵
        (owns (types_at (ended Z).signature.params (y null_ptr).0.0) (y null_ptr).0.3
        (y null_ptr).0.4))
        ∷
        (raw (fact 𝓤 (κ' ⊑ Z.row.lives)) ⊛ raw (fact 𝓤 Said) ⊛ ‵
        (fsep ffalse (token Z inner τ null_ptr)))
        ∷ []) ∵
        -- there is no block at null
        move ! (1 ∷ []) $ split3 ! $ move ! (2 ∷ []) $ fsplit ! $ keep ! (0 ∷ []) $ by !
        (never_e 𝓤 _)
    walk gave fn fal (block_ptr b o) =
        qed 𝓛
        (((‵ (flft κ q) ⊛ ‵ (flft κ' q') ⊛ ‵ ftrue) ⊛ ‵
        (owns (types_at (ended Z).signature.params (y (block_ptr b o)).0.0)
        (y (block_ptr b o)).0.3 (y (block_ptr b o)).0.4))
        ∷
        (raw (fact 𝓤 (κ' ⊑ Z.row.lives)) ⊛ raw (fact 𝓤 Said) ⊛ ‵
        (fsep (froom τ b o) (token Z inner τ (block_ptr b o))))
        ∷ []) ∵
        move ! (1 ∷ []) $ split3 ! $ heard ! _ (λ outlives. heard ! Said (λ said. fsplit ! $
        move ! (2 ∷ []) $ split ! $ split ! $ move ! (2 ∷ []) $ fsplit ! $ fsplit ! $ move !
        (1 ∷ []) $ unhide ! $ fsplit ! $ fsplit ! $
        use1 𝓛 (‵ (seen Z κ at inner)) (id⊢ 𝓤 _) $
        -- [the inner allocator; the count; what pads them; the rest of the parameters, twice; the
        -- tokens; the block; the right to free it]
        keep ! (7 ∷ 8 ∷ 0 ∷ 5 ∷ 6 ∷ []) $
        enter ! _ _ _ _ _ $ alloc_all ! (λ l. pass_all ! refl
        ((tt, tt), ((tt, tt), ((tt, record { fits = fn }), ((tt, record { fits = fal }), tt))))
        $
        sets ! (addr ! (through ! refl (fld ! refl (stop !)))) refl (tt, tt) $
        group ! 4 $ use1 𝓛 (raw (Gave.pre (at_gives Z 𝓛 𝓜.mem 𝓡.returns κ q at inner b o n al τ)))
        (Gives-goes Z 𝓛 𝓜.mem 𝓡.returns κ q at inner (⊑_trans κ κ' Z.row.lives inn outlives) b o
        n al τ said.0 said.1 fn fal) $
        calls_at ! (framed 𝓤 𝓛.H 𝓜 𝓣) Gave gave
        (at_gives Z 𝓛 𝓜.mem 𝓡.returns κ q at inner b o n al τ)
        (and_then ! (get ! refl)
        (and_then ! (get ! refl)
        (and_then ! (get ! refl) (and_then ! (get ! refl) (no_more !))))) (λ v.
        use1 𝓛 (later (given (v ≡ vunit) (‵ (flft κ q))))
        (Gives-Gives Z 𝓛 𝓜.mem 𝓡.returns κ q at inner b o n al τ v) $ await ! tt $ learn ! (λ
        is_unit.
        lands_as ! is_unit refl (tt, tt) $ sets ! (of_opd ! (unit_lit !)) refl (tt, tt) $ returns !
        (look_at ! 0 refl) $ free_all ! refl $ given_back (block_ptr b o))))))

pub deallocate_spec : {M : Type 1} → statement M
deallocate_spec 𝓤 𝓛 𝓜 𝓡 wired Y L g d d' met _ =
    let Z : Al = record { row = Y; laws = L; g = g; d = d; drops = d' } in
    let number = Goes-dropped 𝓛 2 (plain (λ _. usize)) yes (λ κs x w. refl) in
    proved 𝓛 (ended Z) (stayed Z) (held Z 𝓛 𝓜 𝓡) 𝓜 𝓡 (
      Goes-dropped 𝓛 2 (self Z) yes (λ κs x w. refl),
      (Goes-dropped 𝓛 2 (plain (λ _. RawPtr)) yes (λ κs x w. refl), (number, (number, tt))),
    )
    (key.name (args Z)) (here Z) (code.unfolded 𝓤 𝓛.H 𝓜 𝓡 wired (Y, tt) d d')
    (λ κs. (shr_vals, (rawptr_vals, (uint_vals w64, (uint_vals w64, tt)))))
    (λ κs. ((λ r vs s. s.0), (rawptr_Tells, (uint_Tells w64, (uint_Tells w64, tt)))))
    (λ κs qs bounds a τ are. walk Z 𝓛 𝓜 𝓡 κs.0 κs.1.0 qs.0 qs.1.0 bounds.0 a.0 a.1.1.0 a.1.1.1.0 τ
    (met.deallocate d') are.1.1.0.1 are.1.1.1.0.1 a.1.0)
