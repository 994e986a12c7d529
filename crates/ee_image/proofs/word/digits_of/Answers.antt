use Rattle.std.proofs.Common.{ap, ◌∙◌}
use Rattle.hex.specs.Hex.{encode_lower}
use Rattle.ee_image.specs.Text.{digits}
use Rattle.ee_image.proofs.word.digits_of.Goals as goal

pub returns : goal.returns
unfolding digits
returns c = c.in-Ok.ensures.written ∙ ap encode_lower c.to_be_bytes.ensures
