use Rattle.ee_web.specs.Mirror.{mirrored_device}
use Rattle.ee_web.proofs.looks.ee_bad_words.Given as goal

abbrev pub ghosts-judge : goal.ghosts-judge
ghosts-judge a = record {
  start = mirrored_device a.shape a.words.now a.flags.now a.wears.now;
  list = a.listed.ghost_name;
}
