use Rattle.std.proofs.Common.{◌≡◌, None, arith, nat_cmp, refl, rules, sym}
use Rattle.std.specs.BTreeMap.{get}
use Rattle.ee_settings.proofs.Listings.{all_listed, none_listed, one_listed}
use Rattle.ee_settings.proofs.Merging.{IsLowest, left_first, lower_lowest}
use Rattle.ee_settings.specs.Listing.{first_address, lower_of, named_in}
use Rattle.ee_settings.proofs.listing.list_both.Goals as goal

pub listed-init : goal.listed-init
listed-init g c = λ settings same.
    let map = get nat_cmp c.args.stored.now in
    record {
      from = 0;
      within = omega arith;
      so_far = rw c.new-listed.ensures.items (sym (none_listed settings map));
      names_left =
          left_first (named_in settings) c.args.named.now c.new-names.result c.new-names.ensures.all
          c.new-names.ensures.ordered same;
      values_left =
          left_first map c.args.stored.now c.new-values.result c.new-values.ensures.all
          c.new-values.ensures.ordered refl;
    }

pub listed-smaller : goal.listed-smaller
listed-smaller g c = search (rules, IsLowest, lower_lowest)

pub listed-preserved : goal.listed-preserved
listed-preserved g c = λ settings same.
    let least : IsLowest c.in-Some.address c.listed.names c.listed.values =
    lower_lowest c.in-Some.address c.listed.names c.listed.values (search rules) in
    rw (c.take-name.ensures.left, c.take-value.ensures.left)
    (one_listed settings (get nat_cmp c.args.stored.now) c.listed.listed.items c.listed.names
    c.listed.values (c.listed.invariant settings same) c.in-Some.address
    c.push_listed.new.listed.items
    least (omega arith) (omega arith)
    (rw (sym c.take-name.ensures.found, sym c.take-value.ensures.found)
    c.in_ok-push_listed.ensures))

pub returns : goal.returns
returns g c = λ settings same.
    let none : lower_of (first_address c.listed.names) (first_address c.listed.values) ≡ None =
    search rules in
    all_listed settings (get nat_cmp c.args.stored.now) c.listed.listed.items c.listed.names
    c.listed.values (c.listed.invariant settings same) none
