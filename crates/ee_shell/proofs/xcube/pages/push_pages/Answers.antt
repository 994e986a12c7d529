use Rattle.ee_image_store.proofs.Public.{told_more, told_none}
use Rattle.ee_shell.proofs.xcube.pages.push_pages.Goals as goal

pub pages-init : goal.pages-init
pages-init g c = told_none _ c.args.out.now.items

pub pages-preserved : goal.pages-preserved
pages-preserved g c =
    told_more c.pages.page _ c.args.out.now.items c.pages.out.items c.push_page.new.out.items
    c.pages.invariant
    c.in_ok-push_page.ensures
