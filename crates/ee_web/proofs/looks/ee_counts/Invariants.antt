use Rattle.ee_web.specs.Mirror.{mirrored_device}
use Rattle.ee_web.proofs.looks.ee_counts.Given as goal

abbrev pub ghosts-count : goal.ghosts-count
ghosts-count a = record {
  start = mirrored_device a.shape a.words.now a.flags.now a.wears.now;
  list = a.listed.ghost_name;
}
