use Rattle.ee_core.proofs.ShownStates.{pictures_tell_images_lem}
use Rattle.ee_core.proofs.laws.pictures_tell_images.Goals as goal

pub returns : goal.returns
returns c = pictures_tell_images_lem
