use Rattle.ee_web.specs.Mirror.{mirrored_device}
use Rattle.ee_web.proofs.looks.ee_read.Given as goal

abbrev pub ghosts-look_up : goal.ghosts-look_up
ghosts-look_up a = record {
  start = mirrored_device a.shape a.words.now a.flags.now a.wears.now;
  list = a.listed.ghost_name;
}
