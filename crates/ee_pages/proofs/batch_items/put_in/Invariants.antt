use Rattle.std.proofs.Common.{◌≡◌, ◌≤◌, length}
use Rattle.std.specs.List.{All, insert}
use Rattle.ee_pages.specs.Nearest.{IsOfAddress}
use Rattle.ee_pages.proofs.batch_items.put_in.Given as goal

abbrev pub invariant-loop-at : goal.invariant-loop-at
invariant-loop-at l = record {
  carries : insert l.list l.at l.carried ≡ insert l.fn.list l.fn.place l.fn.number;
  as_long : length l.list ≡ length l.fn.list;
  within : l.at ≤ l.fn.end;
  proper : All IsOfAddress l.fn.list → IsOfAddress l.fn.number → All IsOfAddress l.list;
  proper_one : All IsOfAddress l.fn.list → IsOfAddress l.fn.number → IsOfAddress l.carried;
}
