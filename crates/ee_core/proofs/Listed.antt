-- Lists of values that are put: an address that is listed twice, and lists in which
-- each is listed once.
use Rattle.ee_core.proofs.Words.{◌≡◌, ℕ, false, Option, Some, None, List, [], ◌∷◌, take, refl, ap, ◌∙◌, suc, ◌==◌, ◌||◌, slice_get, All, ne_eqb, All-head, All-tail}
use Rattle.ee_core.proofs.Sets.{IsAddress, Put, map_after, neither}
use Rattle.ee_core.proofs.Calls.{AreApart, IsEachOnce, ListsAreThere, is_put, is_put_again, names, puts_of}
use Rattle.ee_core.specs.declared.change.Put as listed
use Rattle.ee_core.proofs.CopiedMaps.{apart, changed_by-other, put-at}

-- a list of values names the addresses that are put
pub names-puts : (puts : List listed.Put) (address : ℕ)
    → names (puts_of puts) address ≡ is_put puts address
names-puts [] _ = refl
names-puts (put ∷ puts) address =
    ap (λ later. (put.address == address) || later) (names-puts puts address)

again_behind : (put : listed.Put) (earlier : List listed.Put) (found : Option listed.Put)
    → is_put_again (put ∷ earlier) found ≡ false → is_put_again earlier found ≡ false
again_behind _ _ None e = refl
again_behind _ _ (Some _) e = (neither _ _ e).1

again_first : (put : listed.Put) (earlier : List listed.Put) (found : Option listed.Put)
    → is_put_again (put ∷ earlier) found ≡ false → is_put_again (put ∷ []) found ≡ false
again_first _ _ None e = refl
again_first _ earlier (Some other) e =
    let away = (neither _ (is_put earlier other.address) e).0 in rw away refl

-- no entry of the list has the address of this value
none_again : (put : listed.Put) (puts : List listed.Put)
    → ((place : ℕ) → is_put_again (put ∷ []) (slice_get puts place) ≡ false)
    → names (puts_of puts) put.address ≡ false
none_again _ [] _ = refl
none_again put (other ∷ puts) each =
    let here = ne_eqb other.address put.address (apart _ _ ((neither _ _ (each 0)).0)) in
    rw here (none_again put puts (λ place. each (suc place)))

pub each_apart : (puts : List listed.Put) → All (λ put. IsAddress put.address) puts
    → IsEachOnce puts → AreApart (puts_of puts)
each_apart [] _ _ = tt
each_apart (put ∷ puts) proper once = (
  All-head (λ put. IsAddress put.address) _ _ proper,
  none_again put puts
      (λ place. again_first put (take place puts) (slice_get puts place) (once (suc place))),
  each_apart puts (All-tail (λ put. IsAddress put.address) _ _ proper)
      (λ place. again_behind put (take place puts) (slice_get puts place) (once (suc place))),
)

pub lists_are_there_lem : ListsAreThere
lists_are_there_lem [] _ _ = tt
lists_are_there_lem (put ∷ puts) map once = (
  changed_by-other (puts_of puts) (map_after (Put put.address put.value) map) put.address
      (none_again put puts
      (λ place. again_first put (take place puts) (slice_get puts place) (once (suc place))))
      ∙ put-at map put.address _ _ refl,
  lists_are_there_lem puts (map_after (Put put.address put.value) map)
      (λ place. again_behind put (take place puts) (slice_get puts place) (once (suc place))),
)
