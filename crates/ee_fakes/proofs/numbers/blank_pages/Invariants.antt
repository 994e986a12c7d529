use Rattle.std.proofs.Common.{◌≡◌, map, replicate}
use Rattle.ee_flash.specs.Device.{all_ones}
use Rattle.ee_fakes.proofs.numbers.blank_pages.Given as goal

abbrev pub invariant-pages : goal.invariant-pages
invariant-pages g l =
    map (λ page. page.items) l.pages.items ≡ replicate l.counter (replicate l.numbers all_ones)
