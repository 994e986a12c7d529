-- What a ledger holds: how often each page was erased, by rising page.
use Rattle.std.specs.Prelude.{◌≤◌, ℕ, min, max, List, length, unwrap_or}
use Rattle.std.specs.List.{All, reduce}
use Rattle.ee_flash.specs.Device.{all_ones}

-- one count for each page, of which there are 2 to 128, and each fits 64 bits
pub record IsLedger (counts : List ℕ) : Type 0 where
  pub some_pages : 2 ≤ length counts
  pub few_pages : length counts ≤ 128
  pub fits : All (λ count. count ≤ all_ones) counts

-- the least count, 0 where there is none
abbrev pub least_of : List ℕ → ℕ
least_of counts = unwrap_or (reduce min counts) 0

-- the greatest count, 0 where there is none
abbrev pub greatest_of : List ℕ → ℕ
greatest_of counts = unwrap_or (reduce max counts) 0
