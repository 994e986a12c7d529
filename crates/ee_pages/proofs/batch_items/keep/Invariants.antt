use Rattle.std.proofs.Common.{◌≡◌, ◌≤◌, length, map, take, drop}
use Rattle.std.specs.List.{All}
use Rattle.ee_pages.specs.Nearest.{IsOfAddress, item_by, live_values, named_by}
use Rattle.ee_pages.proofs.batch_items.keep.Given as goal

abbrev pub invariant-loop-place : goal.invariant-loop-place
invariant-loop-place l = record {
  living : map item_by (take l.kept l.numbers)
      ≡ live_values (map named_by (take l.place l.fn.numbers));
  rest : drop l.place l.numbers ≡ drop l.place l.fn.numbers;
  as_long : length l.numbers ≡ length l.fn.numbers;
  few : l.kept ≤ l.place;
  within : l.place ≤ l.fn.count;
  proper : All IsOfAddress l.fn.numbers → All IsOfAddress l.numbers;
}
