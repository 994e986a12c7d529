use Rattle.std.proofs.Common.{◌≡◌, ◌<◌, ℕ, List, arith, ap, ◌∙◌, get_or, subst, sym, rules}
use Rattle.ee_flash.specs.declared.word.Word.TheVariants.{Erased}
use Rattle.ee_codec.specs.Reading.{slot_of}
use Rattle.ee_pages.specs.Sets.{fill_of, set_of, slots_of}
use Rattle.ee_core.proofs.Public.{always_on_err}
use Rattle.ee_index.specs.Index.{index_with_slot, slot_for}
use Rattle.ee_index.proofs.Indexing.{IndexesTo, enters, fill_small, indexes_all, slot_listed, slot_within}
use Rattle.ee_index.proofs.LentRooms.{found_small}
use Rattle.ee_index.proofs.entering.enter_slots.Goals as goal

pub slot_word-requires : goal.slot_word-requires
slot_word-requires g c = search (rules, slot_within)

pub enter-requires : goal.enter-requires
enter-requires g c = search (rules, fill_small)

pub loop-number-preserved : goal.loop-number-preserved
loop-number-preserved g c =
    let device = g.F.Flash.device c.args.flash.now in
    let slots = slots_of (set_of c.args.layout.now.side device) in
    let said : c.read_slot.result ≡ slot_of (get_or slots c.loop-number.number Erased) =
    c.read_slot.ensures.exact ∙ ap slot_of c.slot_word.ensures in
    let entering =
    λ (address : ℕ). c.in_ok-enter.ensures.entered address
    ∙ ap
    (λ slot. index_with_slot slot c.loop-number.number
    (slot_for (g.L.Listing.list c.loop-number.list)) address) said in
    let number = c.loop-number.number in
    let listed = slot_listed device _ c.requires.layout number c.loop-number-test.true in
    record {
      indexes = enters slots number _ _ listed entering c.loop-number.invariant.indexes;
      same_room = c.in_ok-enter.ensures.same_room ∙ c.loop-number.invariant.same_room;
    }

pub returns-in_err-enter-clause-small : goal.returns-in_err-enter-clause-small
returns-in_err-enter-clause-small g c =
    let device = g.F.Flash.device c.args.flash.now in
    let slots = slots_of (set_of c.args.layout.now.side device) in
    let number = c.loop-number.number in
    let said : c.read_slot.result ≡ slot_of (get_or slots number Erased) =
    c.read_slot.ensures.exact ∙ ap slot_of c.slot_word.ensures in
    let filled : number < fill_of slots =
    omega (arith, c.loop-number-test.true, c.requires.layout.fill) in
    let indexes =
    subst (λ (entries : List (ℕ × ℕ)). IndexesTo slots number (slot_for entries))
    (sym c.in_err-enter.ensures.err) c.loop-number.invariant.indexes in
    always_on_err _
    (found_small slots number (g.L.Listing.list c.enter.new.list)
    (slot_listed device _ c.requires.layout number c.loop-number-test.true) indexes _ said filled
    (g.L.Listing.room c.enter.new.list) c.in_err-enter.ensures.refused)

pub returns-clause-index : goal.returns-clause-index
returns-clause-index g c =
    let full : c.loop-number.number ≡ c.args.layout.now.fill =
    omega (arith, c.loop-number-test.false, c.loop-number.auto.number-end) in
    indexes_all _ _ _ c.loop-number.number c.requires.layout full c.loop-number.invariant.indexes
