use Rattle.ee_web.specs.Mirror.{mirrored_device}
use Rattle.ee_web.proofs.looks.ee_next.Given as goal

abbrev pub ghosts-look_on : goal.ghosts-look_on
ghosts-look_on a = record {
  start = mirrored_device a.shape a.words.now a.flags.now a.wears.now;
  list = a.listed.ghost_name;
}
