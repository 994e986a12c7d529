use Rattle.ee_web.specs.Mirror.{mirrored_device}
use Rattle.ee_web.proofs.exports.make_call.Given as goal

abbrev pub ghosts-draft : goal.ghosts-draft
ghosts-draft a = record {
  start = mirrored_device a.shape a.words.now a.flags.now a.wears.now;
  list = a.listed.ghost_name;
}
