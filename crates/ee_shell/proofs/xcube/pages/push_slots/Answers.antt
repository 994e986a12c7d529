use Rattle.ee_image_store.proofs.Public.{told_more, told_none}
use Rattle.ee_shell.proofs.xcube.pages.push_slots.Goals as goal

pub places-init : goal.places-init
places-init g c = told_none _ c.args.out.now.items

pub places-preserved : goal.places-preserved
places-preserved g c =
    told_more c.places.at _ c.args.out.now.items c.places.out.items c.push_place.new.out.items
    c.places.invariant
    c.in_ok-push_place.ensures
