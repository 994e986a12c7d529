use Rattle.ee_index.proofs.Followed.{index_appended}
use Rattle.ee_index.proofs.index_changing.append_indexed.Goals as goal

pub returns : goal.returns
returns g c = record {
  appended = c.in_ok-append_change.ensures.appended;
  cut = tt;
  store = c.append_change.ensures.store;
  layout = c.append_change.ensures.layout;
  index = λ on. index_appended _ _ _ _ _ _ c.requires.layout c.requires.free c.requires.ready
      c.in_ok-append_change.ensures.written _ c.leave_forgotten.ensures.left;
}
