use Rattle.std.proofs.Common.{◌≡◌, ◌<◌, ◌≤◌, ◌+◌, ◌-◌, ◌*◌, ◌∙◌, ℕ, cond, length, take, sym, ap, subst, arith}
use Rattle.std.proofs.Math.Nat.{mul-le-mul_left}
use Rattle.std.proofs.lemmas.List.{length-take-le}
use Rattle.std.proofs.lemmas.List.Filters.{length-filter_more}
use Rattle.std.proofs.lemmas.List.Sums.{count_by-le-length, length-filter}
use Rattle.ee_flash.specs.Size.{Size}
use Rattle.ee_flash.specs.declared.word.Word.TheVariants.{Erased}
use Rattle.ee_pages.specs.Page.{is_torn}
use Rattle.ee_pages.specs.Sets.{set_of, slots_of, torn_of}
use Rattle.ee_pages.proofs.Nearest.{in_set}
use Rattle.ee_pages.proofs.Slots.{length-slots}
use Rattle.ee_pages.proofs.read.torn_through.Goals.{then-is_torn, else-is_torn}
use Rattle.ee_pages.proofs.read.torn_through.Goals as goal

pub loop-slot-preserved : goal.loop-slot-preserved
loop-slot-preserved g c =
    let device = g.F.Flash.device c.args.flash.now in
    let slots = slots_of (set_of c.args.side device) in
    let formed = g.met.F.Flash.formed c.args.flash.now in
    let place = c.args.page * (device.size.words - 4) + c.loop-slot.slot in
    let next : place + 1 ≡ c.args.page * (device.size.words - 4) + (c.loop-slot.slot + 1) =
    omega arith in
    let few : c.loop-slot.slot < device.size.words - 4 =
    omega (
      arith,
      c.loop-slot-test.true,
      c.words-slot-end.ensures.value,
      ap (λ (size : Size). size.words) c.shape.ensures,
    ) in
    let within : place < length slots =
    omega (
      arith,
      length-slots c.args.side device formed,
      in_set c.args.page device.size.pages (device.size.words - 4) c.loop-slot.slot
          c.requires.page_in_range few,
    ) in
    let more = length-filter_more is_torn slots place Erased within in
    let is = c.is_torn.ensures ∙ ap is_torn c.page_slot.ensures in
    elim c.if-is_torn.branch [
      | then-is_torn w ↦
          let yes = ap {B = ℕ} (λ b. cond b 1 0) (sym is ∙ w.if-is_torn.true) in
          let one : c.loop-slot.torn + 1 ≡ torn_of (take (place + 1) slots) =
          omega (arith, more, yes, c.loop-slot.invariant) in
          let kept = subst (λ n. c.loop-slot.torn + 1 ≡ torn_of (take n slots)) next one in
          rw w.torn-is (search kept fits 100 parts 0)
      | else-is_torn w ↦
          let no = ap {B = ℕ} (λ b. cond b 1 0) (sym is ∙ w.if-is_torn.false) in
          let one : c.loop-slot.torn ≡ torn_of (take (place + 1) slots) =
          omega (arith, more, no, c.loop-slot.invariant) in
          rw w.torn-is (subst (λ n. c.loop-slot.torn ≡ torn_of (take n slots)) next one)
    ]

pub overflow_add-torn : goal.overflow_add-torn
overflow_add-torn g c =
    let device = g.F.Flash.device c.args.flash.now in
    let slots = slots_of (set_of c.args.side device) in
    let formed = g.met.F.Flash.formed c.args.flash.now in
    let place = c.args.page * (device.size.words - 4) + c.loop-slot.slot in
    let few : c.loop-slot.slot < device.size.words - 4 =
    omega (
      arith,
      c.loop-slot-test.true,
      c.words-slot-end.ensures.value,
      ap (λ (size : Size). size.words) c.shape.ensures,
    ) in
    let all = length-slots c.args.side device formed in
    let within : place < length slots =
    omega (
      arith,
      all,
      in_set c.args.page device.size.pages (device.size.words - 4) c.loop-slot.slot
          c.requires.page_in_range few,
    ) in
    let front : length (take place slots) ≡ place =
    length-take-le place slots (omega (arith, within)) in
    let row : device.size.words - 4 ≤ 508 = omega (arith, formed.within_limits.few_words) in
    let rows : device.size.pages * (device.size.words - 4) ≤ device.size.pages * 508 =
    mul-le-mul_left device.size.pages row in
    omega (
      arith,
      length-filter is_torn (take place slots),
      count_by-le-length is_torn (take place slots),
      front,
      within,
      all,
      rows,
      formed.within_limits.few_pages,
      c.loop-slot.invariant,
    )
