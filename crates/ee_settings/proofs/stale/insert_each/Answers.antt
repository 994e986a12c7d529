use Rattle.std.proofs.Common.{◌≡◌, ◌∙◌, ◌+◌, ◌∷◌, ℕ, List, drop, ap, sym, nat_cmp}
use Rattle.std.proofs.lemmas.List.{drop_more}
use Rattle.std.specs.BTreeMap.{get}
use Rattle.ee_settings.proofs.Stored.{put_one}
use Rattle.ee_settings.specs.Stale.{with_found}
use Rattle.ee_settings.proofs.stale.insert_each.Goals as goal

pub each-preserved : goal.each-preserved
each-preserved g c =
    let found = c.args.found.now.items in
    let at = c.each.place in
    let pair : ℕ × ℕ = c.in-Some.address-1-given.0.0 in
    let here = c.in-Some.ensures.found in
    let split : drop at found ≡ pair ∷ drop (at + 1) found =
    drop_more found at pair here.0 ∙ ap (λ (x : ℕ × ℕ). x ∷ drop (at + 1) found) (sym here.1) in
    record {
      so_far =
          ap (with_found (drop (at + 1) found))
          (put_one c.each.stored c.insert.new.self pair.0 pair.1 c.in_ok-insert.ensures.updates)
          ∙ ap (λ (xs : List (ℕ × ℕ)). with_found xs (get nat_cmp c.each.stored)) (sym split)
          ∙ c.each.invariant.so_far;
    }
