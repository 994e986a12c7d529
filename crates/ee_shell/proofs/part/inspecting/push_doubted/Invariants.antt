use Rattle.std.proofs.Common.{◌≡◌, ◌++◌, get_or}
use Rattle.ee_image_store.specs.Told.{each_below}
use Rattle.ee_shell.specs.Part.Inspecting.{doubt_told, is_before}
use Rattle.ee_shell.proofs.part.inspecting.push_doubted.Given as goal

-- the addresses so far are told
abbrev pub invariant-addresses : goal.invariant-addresses
invariant-addresses g l =
    l.out.items
    ≡ l.fn.out.items
    ++ each_below l.address
    (λ address. doubt_told l.telling (is_before (get_or l.spoken address 0) l.torn) address)
