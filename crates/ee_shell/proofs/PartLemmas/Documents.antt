-- The documents of `--json inspect`, from their parts.
use Rattle.std.proofs.Common.{◌≡◌, ◌∙◌, List, [], ◌++◌, ℕ, ap, append_assoc, sym}
use Rattle.std.specs.Prelude.{codes, decimal}
use Rattle.ee_commands.specs.Json.{array}
use Rattle.ee_pages.specs.declared.find.ScanFault.{ScanFault}
use Rattle.ee_shell.specs.Part.Document.{fault_document, live_document, parts_members, slots_members}
use Rattle.ee_shell.specs.Part.Inspecting.{scan_words}
use Rattle.ee_shell.specs.declared.part.inspecting.Usage.{Usage}

eight_parts : (x1 x2 x3 x4 x5 x6 x7 x8 more : List ℕ)
    → (x1 ++ (x2 ++ (x3 ++ (x4 ++ (x5 ++ (x6 ++ (x7 ++ x8))))))) ++ more
    ≡ x1 ++ (x2 ++ (x3 ++ (x4 ++ (x5 ++ (x6 ++ (x7 ++ (x8 ++ more)))))))
eight_parts x1 x2 x3 x4 x5 x6 x7 x8 more =
    append_assoc x1 (x2 ++ (x3 ++ (x4 ++ (x5 ++ (x6 ++ (x7 ++ x8)))))) more
    ∙ ap (λ t. x1 ++ t) (append_assoc x2 (x3 ++ (x4 ++ (x5 ++ (x6 ++ (x7 ++ x8))))) more
    ∙ ap (λ t. x2 ++ t) (append_assoc x3 (x4 ++ (x5 ++ (x6 ++ (x7 ++ x8)))) more
    ∙ ap (λ t. x3 ++ t) (append_assoc x4 (x5 ++ (x6 ++ (x7 ++ x8))) more
    ∙ ap (λ t. x4 ++ t) (append_assoc x5 (x6 ++ (x7 ++ x8)) more
    ∙ ap (λ t. x5 ++ t) (append_assoc x6 (x7 ++ x8) more
    ∙ ap (λ t. x6 ++ t) (append_assoc x7 x8 more))))))

-- what was written one behind the other, from the front
seven_pieces : (a b c d e f g : List ℕ)
    → ((((((a ++ b) ++ c) ++ d) ++ e) ++ f) ++ g)
    ≡ a ++ (b ++ (c ++ (d ++ (e ++ (f ++ g)))))
seven_pieces a b c d e f g =
    append_assoc (((((a ++ b) ++ c) ++ d) ++ e)) f g
    ∙ append_assoc ((((a ++ b) ++ c) ++ d)) e (f ++ g)
    ∙ append_assoc (((a ++ b) ++ c)) d (e ++ (f ++ g))
    ∙ append_assoc (a ++ b) c (d ++ (e ++ (f ++ g)))
    ∙ append_assoc a b (c ++ (d ++ (e ++ (f ++ g))))

-- all parts of the first two pieces stand in a row
sixteen_parts : (x1 x2 x3 x4 x5 x6 x7 x8 y1 y2 y3 y4 y5 y6 y7 y8 more : List ℕ)
    → (x1 ++ (x2 ++ (x3 ++ (x4 ++ (x5 ++ (x6 ++ (x7 ++ x8)))))))
    ++ ((y1 ++ (y2 ++ (y3 ++ (y4 ++ (y5 ++ (y6 ++ (y7 ++ y8))))))) ++ more)
    ≡ x1 ++ (x2 ++ (x3 ++ (x4 ++ (x5 ++ (x6 ++ (x7 ++ (x8 ++ (y1 ++ (y2 ++ (y3 ++ (y4 ++ (y5 ++ (y6 ++ (y7 ++ (y8 ++ more)))))))))))))))
sixteen_parts x1 x2 x3 x4 x5 x6 x7 x8 y1 y2 y3 y4 y5 y6 y7 y8 more =
    eight_parts x1 x2 x3 x4 x5 x6 x7 x8 ((y1 ++ (y2 ++ (y3 ++ (y4 ++ (y5 ++ (y6 ++ (y7 ++ y8))))))) ++ more)
    ∙ ap (λ t. x1 ++ (x2 ++ (x3 ++ (x4 ++ (x5 ++ (x6 ++ (x7 ++ (x8 ++ t))))))))
    (eight_parts y1 y2 y3 y4 y5 y6 y7 y8 more)

-- four numbers, each behind its words
pub four_numbers : (old a b c d x y z w one two three four : List ℕ) → one ≡ old ++ (a ++ x)
    → two ≡ one ++ (b ++ y) → three ≡ two ++ (c ++ z) → four ≡ three ++ (d ++ w)
    → four ≡ old ++ (a ++ (x ++ (b ++ (y ++ (c ++ (z ++ (d ++ w)))))))
four_numbers old a b c d x y z w one two three four e1 e2 e3 e4 =
    let last : List ℕ = d ++ w in
    e4 ∙ ap (λ t. t ++ last) (e3 ∙ ap (λ t. t ++ (c ++ z)) (e2 ∙ ap (λ t. t ++ (b ++ y)) e1))
    ∙ append_assoc ((old ++ (a ++ x)) ++ (b ++ y)) (c ++ z) last
    ∙ append_assoc (old ++ (a ++ x)) (b ++ y) ((c ++ z) ++ last)
    ∙ append_assoc old (a ++ x) ((b ++ y) ++ ((c ++ z) ++ last))
    ∙ ap (λ t. old ++ t)
    (append_assoc a x ((b ++ y) ++ ((c ++ z) ++ last))
    ∙ ap (λ t. a ++ (x ++ t))
    (append_assoc b y ((c ++ z) ++ last) ∙ ap (λ t. b ++ (y ++ t)) (append_assoc c z last)))

pub live_made : (usage : Usage)
    (torn doubts none opened slots parts words first behind second done : List ℕ)
    → none ≡ [] → opened ≡ none ++ codes "{\"scan\":\"ok\"" → slots ≡ opened ++ slots_members usage
    → parts ≡ slots ++ parts_members usage → words ≡ parts ++ codes ",\"torn_words\":"
    → first ≡ words ++ array torn → behind ≡ first ++ codes ",\"in_doubt\":"
    → second ≡ behind ++ array doubts → done ≡ second ++ codes "}\n"
    → done ≡ live_document usage torn doubts
live_made usage torn doubts none opened slots parts words first behind second done e0 e e1 e2 e3 e4 e5
    e6 e7 =
    let begun : List ℕ = codes "{\"scan\":\"ok\"" in
    let named : List ℕ = codes ",\"torn_words\":" in
    let doubted : List ℕ = codes ",\"in_doubt\":" in
    let rest : List ℕ = named ++ (array torn ++ (doubted ++ (array doubts ++ codes "}\n"))) in
    e7 ∙ ap (λ t. t ++ codes "}\n") (e6 ∙ ap (λ t. t ++ array doubts) (e5
    ∙ ap (λ t. t ++ doubted) (e4 ∙ ap (λ t. t ++ array torn) (e3 ∙ ap (λ t. t ++ named) (e2
    ∙ ap (λ t. t ++ parts_members usage) (e1 ∙ ap (λ t. t ++ slots_members usage) (e
    ∙ ap (λ t. t ++ begun) e0)))))))
    ∙ seven_pieces (begun ++ slots_members usage) (parts_members usage) named (array torn) doubted
    (array doubts) (codes "}\n")
    ∙ append_assoc begun (slots_members usage) (parts_members usage ++ rest)
    ∙ ap (λ t. begun ++ t)
    (sixteen_parts (codes ",\"set\":") (decimal usage.set)
    (codes ",\"generation\":") (decimal usage.generation) (codes ",\"fill\":") (decimal usage.fill)
    (codes ",\"room\":") (decimal usage.room) (codes ",\"live\":") (decimal usage.live)
    (codes ",\"pending\":") (decimal usage.pending) (codes ",\"superseded\":")
    (decimal usage.superseded) (codes ",\"torn\":") (decimal usage.torn) rest)

pub fault_made : (fault : ScanFault) (torn none front told words items done : List ℕ)
    → none ≡ [] → front ≡ none ++ codes "{\"scan\":\"" → told ≡ front ++ scan_words fault
    → words ≡ told ++ codes "\",\"torn_words\":" → items ≡ words ++ array torn
    → done ≡ items ++ codes "}\n" → done ≡ fault_document fault torn
fault_made fault torn none front told words items done e0 e1 e2 e3 e4 e5 =
    let begun : List ℕ = codes "{\"scan\":\"" in
    let named : List ℕ = codes "\",\"torn_words\":" in
    let behind : List ℕ = array torn ++ codes "}\n" in
    e5 ∙ ap (λ t. t ++ codes "}\n") (e4 ∙ ap (λ t. t ++ array torn) (e3 ∙ ap (λ t. t ++ named) (e2
    ∙ ap (λ t. t ++ scan_words fault) (e1 ∙ ap (λ t. t ++ begun) e0))))
    ∙ append_assoc (((begun ++ scan_words fault) ++ named)) (array torn) (codes "}\n")
    ∙ append_assoc (begun ++ scan_words fault) named behind
    ∙ append_assoc begun (scan_words fault) (named ++ behind)
    ∙ ap (λ t. begun ++ t)
    (sym (append_assoc (scan_words fault) (codes "\"") (codes ",\"torn_words\":" ++ behind)))

-- what was written where nothing stood
pub all_of_it : (none text told given : List ℕ) → none ≡ [] → text ≡ none ++ told → given ≡ text
    → given ≡ told
all_of_it none text told given empty written is = is ∙ written ∙ ap (λ t. t ++ told) empty

pub live_alike : (usage other : Usage) (torn more doubts others : List ℕ) → usage ≡ other
    → torn ≡ more → doubts ≡ others
    → live_document usage torn doubts ≡ live_document other more others
live_alike usage other torn more doubts others e0 e1 e2 =
    ap (λ (u : Usage). live_document u torn doubts) e0
    ∙ ap (λ t. live_document other t doubts) e1
    ∙ ap (λ t. live_document other more t) e2
