-- `is_refused` at a call. It is handed a `&` to the cell and the token of the lifetime, and gives
-- the token back beside its answer.
use Rattle.ee_fakes.proofs.Walking.{◌≡◌, ℕ, Bool, [], ◌∷◌, refl, ap, Ura, Val, vbool, vptr, List, SProp, ent, ex, sep, guard, id⊢, Lft, Share, ftrue, fsep, flft, Memory, Routine, Logic, sem, Fun, ‵, raw, ◌⊛◌, some, later, ◌$◌, ◌∵◌, !, qed, move, keep, use1, split, join, pick, fjoin, feq_i, feq_l, show, check, await, updating, at_once, done, u64, bool, hidden_shr, RattleType, nothing, only, Contract, triple_of}
use Rattle.std.specs.contracts.cell.Cell as cell
use Rattle.ee_fakes.specs.contracts.refusing.is_refused as asked

abbrev pub Left : RattleType
Left = cell.the_row u64

module _ {M : Type 1} {𝓤 : Ura M} (𝓛 : Logic 𝓤) (at_mem : Memory → SProp 𝓤)
    (run : Routine → Fun 𝓤) where
  abbrev pub Asks : Contract 𝓤
  Asks = triple_of 𝓛 asked.signature (asked.spec 𝓛 at_mem run)

  -- the call at the lifetime `κ`, of whose token it has the share `q`, with the cell at `c`
  abbrev pub asks_at : Lft → Share → ℕ × ℕ → Asks.Ghost
  asks_at κ q c = (
    (
      (κ, tt),
      (q, tt),
      tt,
      (record { ref_ptr = c; now = record { value = tt } }, tt),
      (vptr c.0 c.1 ∷ [], tt),
    ),
    tt,
  )

module _ {M : Type 1} {𝓤 : Ura M} (𝓛 : Logic 𝓤) (at_mem : Memory → SProp 𝓤) (run : Routine → Fun 𝓤)
    (κ : Lft) (q : Share) (c : ℕ × ℕ) where
  open 𝓛 use {H, A}

  pub is-asked : ent 𝓤
      (sep 𝓤 (sem 𝓛 (hidden_shr Left κ (record { value = tt }) c.0 c.1)) (A.lft κ q))
      ((Asks 𝓛 at_mem run).pre (asks_at 𝓛 at_mem run κ q c))
  is-asked =
      qed 𝓛 (‵ (hidden_shr Left κ (record { value = tt }) c.0 c.1) ∷ ‵ (flft κ q) ∷ []) ∵
      feq_i ! (List Val) (vptr c.0 c.1 ∷ []) (vptr c.0 c.1 ∷ []) refl $ fjoin ! $
      nothing ! $ move ! (1 ∷ []) $ fjoin ! $
      nothing ! $ move ! (2 ∷ []) $ join ! $ join ! $
      nothing ! $ move ! (1 ∷ []) $ done !

  pub has-answered : (v : Val)
      → ent 𝓤 ((Asks 𝓛 at_mem run).post (asks_at 𝓛 at_mem run κ q c) v)
      (H.⇛ (ex 𝓤 (λ (r : Bool). guard 𝓤 (v ≡ vbool r) (A.lft κ q))))
  has-answered v =
      qed 𝓛 (raw ((Asks 𝓛 at_mem run).post (asks_at 𝓛 at_mem run κ q c) v) ∷ []) ∵ updating ! $
      use1 𝓛
      (later
      (some
      (λ (r : Bool). ((‵ (flft κ q) ⊛ ‵ ftrue) ⊛ ‵ (bool.own_val r (v ∷ []))) ⊛ some
      (λ (ws : Unit {0} × Unit {0}). ‵ (fsep ftrue ftrue) ⊛ ‵ ftrue))))
      (id⊢ 𝓤 _) $
      await ! tt $ pick ! (λ r. split ! $ split ! $ move ! (1 ∷ []) $ feq_l ! (λ is_bool. split ! $
      at_once ! $
      show ! (λ (b : Bool). guard 𝓤 (v ≡ vbool b) (A.lft κ q)) r $ check ! (ap only is_bool) $ keep
      ! (0 ∷ []) $ done !))
