-- Texts of many parts, each with what stands behind it.
use Rattle.std.proofs.Common.{◌≡◌, ◌∙◌, ℕ, List, ◌++◌, ap, append_assoc}

pub nine_parts : (x1 x2 x3 x4 x5 x6 x7 x8 x9 more : List ℕ)
    → (x1 ++ (x2 ++ (x3 ++ (x4 ++ (x5 ++ (x6 ++ (x7 ++ (x8 ++ x9)))))))) ++ more
    ≡ x1 ++ (x2 ++ (x3 ++ (x4 ++ (x5 ++ (x6 ++ (x7 ++ (x8 ++ (x9 ++ more))))))))
nine_parts x1 x2 x3 x4 x5 x6 x7 x8 x9 more =
    append_assoc x1 (x2 ++ (x3 ++ (x4 ++ (x5 ++ (x6 ++ (x7 ++ (x8 ++ x9))))))) more
    ∙ ap (λ t. x1 ++ t) (append_assoc x2 (x3 ++ (x4 ++ (x5 ++ (x6 ++ (x7 ++ (x8 ++ x9)))))) more
    ∙ ap (λ t. x2 ++ t) (append_assoc x3 (x4 ++ (x5 ++ (x6 ++ (x7 ++ (x8 ++ x9))))) more
    ∙ ap (λ t. x3 ++ t) (append_assoc x4 (x5 ++ (x6 ++ (x7 ++ (x8 ++ x9)))) more
    ∙ ap (λ t. x4 ++ t) (append_assoc x5 (x6 ++ (x7 ++ (x8 ++ x9))) more
    ∙ ap (λ t. x5 ++ t) (append_assoc x6 (x7 ++ (x8 ++ x9)) more
    ∙ ap (λ t. x6 ++ t) (append_assoc x7 (x8 ++ x9) more
    ∙ ap (λ t. x7 ++ t) (append_assoc x8 x9 more)))))))

pub twelve_parts : (x1 x2 x3 x4 x5 x6 x7 x8 x9 x10 x11 x12 more : List ℕ)
    → (x1 ++ (x2 ++ (x3 ++ (x4 ++ (x5 ++ (x6 ++ (x7 ++ (x8 ++ (x9 ++ (x10 ++ (x11 ++ x12))))))))))) ++ more
    ≡ x1 ++ (x2 ++ (x3 ++ (x4 ++ (x5 ++ (x6 ++ (x7 ++ (x8 ++ (x9 ++ (x10 ++ (x11 ++ (x12 ++ more)))))))))))
twelve_parts x1 x2 x3 x4 x5 x6 x7 x8 x9 x10 x11 x12 more =
    append_assoc x1 (x2 ++ (x3 ++ (x4 ++ (x5 ++ (x6 ++ (x7 ++ (x8 ++ (x9 ++ (x10 ++ (x11 ++ x12)))))))))) more
    ∙ ap (λ t. x1 ++ t) (append_assoc x2 (x3 ++ (x4 ++ (x5 ++ (x6 ++ (x7 ++ (x8 ++ (x9 ++ (x10 ++ (x11 ++ x12))))))))) more
    ∙ ap (λ t. x2 ++ t) (append_assoc x3 (x4 ++ (x5 ++ (x6 ++ (x7 ++ (x8 ++ (x9 ++ (x10 ++ (x11 ++ x12)))))))) more
    ∙ ap (λ t. x3 ++ t) (append_assoc x4 (x5 ++ (x6 ++ (x7 ++ (x8 ++ (x9 ++ (x10 ++ (x11 ++ x12))))))) more
    ∙ ap (λ t. x4 ++ t) (append_assoc x5 (x6 ++ (x7 ++ (x8 ++ (x9 ++ (x10 ++ (x11 ++ x12)))))) more
    ∙ ap (λ t. x5 ++ t) (append_assoc x6 (x7 ++ (x8 ++ (x9 ++ (x10 ++ (x11 ++ x12))))) more
    ∙ ap (λ t. x6 ++ t) (append_assoc x7 (x8 ++ (x9 ++ (x10 ++ (x11 ++ x12)))) more
    ∙ ap (λ t. x7 ++ t) (append_assoc x8 (x9 ++ (x10 ++ (x11 ++ x12))) more
    ∙ ap (λ t. x8 ++ t) (append_assoc x9 (x10 ++ (x11 ++ x12)) more
    ∙ ap (λ t. x9 ++ t) (append_assoc x10 (x11 ++ x12) more
    ∙ ap (λ t. x10 ++ t) (append_assoc x11 x12 more))))))))))

-- four texts, one behind the other
pub four_behind : (old a b c d one two three four : List ℕ) → one ≡ old ++ a → two ≡ one ++ b
    → three ≡ two ++ c → four ≡ three ++ d → four ≡ old ++ (a ++ (b ++ (c ++ d)))
four_behind old a b c d one two three four first second third fourth =
    fourth ∙ ap (λ t. t ++ d) (third ∙ ap (λ t. t ++ c) (second ∙ ap (λ t. t ++ b) first))
    ∙ append_assoc ((old ++ a) ++ b) c d ∙ append_assoc (old ++ a) b (c ++ d)
    ∙ append_assoc old a (b ++ (c ++ d))
