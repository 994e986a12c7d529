use Rattle.std.proofs.Common.{rules}
use Rattle.ee_image.proofs.Texts.{one_device_lem}
use Rattle.ee_image.proofs.laws.one_device.Goals as goal

pub returns : goal.returns
returns c = search (rules, one_device_lem)
