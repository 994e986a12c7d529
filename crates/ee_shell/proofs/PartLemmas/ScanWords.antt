-- The scan's line says of a fault what the fault's own line says.
use Rattle.std.proofs.Common.{refl}
use Rattle.ee_pages.specs.declared.find.ScanFault.TheVariants.{Unformatted, NoLiveSet, TwoLive, Foreign}
use Rattle.ee_shell.specs.Part.InspectLaws.{ScanIsToldAsItsFault}

pub scan_is_told_as_its_fault : ScanIsToldAsItsFault
scan_is_told_as_its_fault Unformatted = refl
scan_is_told_as_its_fault NoLiveSet = refl
scan_is_told_as_its_fault TwoLive = refl
scan_is_told_as_its_fault (Foreign page at) = refl
