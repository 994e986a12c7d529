use Rattle.std.proofs.Common.{◌≡◌, ◌+◌, List, length, nat_cmp}
use Rattle.std.specs.BTreeMap.{get}
use Rattle.ee_settings.proofs.Listings.{IsListedFrom}
use Rattle.ee_settings.specs.Listing.{named_in}
use Rattle.ee_settings.specs.Setting.{Setting}
use Rattle.ee_settings.proofs.listing.list_both.Given as goal

-- what there is to say of the addresses so far, and the entries that are left
abbrev pub invariant-listed : goal.invariant-listed
invariant-listed g l =
    (settings : List Setting) → get nat_cmp l.named ≡ named_in settings
    → IsListedFrom settings (get nat_cmp l.stored) l.listed.items l.names l.values

abbrev pub decreases-listed : goal.decreases-listed
decreases-listed g l = length l.names + length l.values
