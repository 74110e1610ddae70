-- The printed text is the text of the lines.
use Rattle.mig_cert.proofs.Common.{Cert, InputLists, List, [], ap, append-nil, append_assoc, bound_lines, bound_text, cert_lines, cert_title, class_word, codes, decimal, opening_lines, opening_text}
use Rattle.mig_cert.proofs.Common.{refl, sym, text_of_lines, words, ℕ, ◌++◌, ◌∙◌, ◌∷◌, ◌≡◌}

text_both : (ls ms : List (List ℕ)) → text_of_lines (ls ++ ms) ≡ text_of_lines ls ++ text_of_lines ms
text_both [] ms = refl
text_both (l ∷ ls) ms = ap (λ t. (l ++ 10 ∷ []) ++ t) (text_both ls ms) ∙ sym (append_assoc (l ++ 10 ∷ []) (text_of_lines ls) (text_of_lines ms))

pub printed : (input : InputLists) (cert : Cert) (a b c : List ℕ) → a ≡ opening_text input cert → b ≡ a ++ bound_text input cert.bound → c ≡ b ++ codes "end\n" → c ≡ text_of_lines (cert_lines input cert)
printed input cert a b c ha hb hc =
    let first : List (List ℕ) = opening_lines (cert_title input) cert.rounds cert.quotient (class_word cert.class) in
    let second : List (List ℕ) = bound_lines input cert.bound in
    let e : text_of_lines (cert_lines input cert) ≡ opening_text input cert ++ (bound_text input cert.bound ++ codes "end\n") =
    text_both first (second ++ codes "end" ∷ []) ∙ ap (λ t. opening_text input cert ++ t) (text_both second (codes "end" ∷ [])) in
    hc ∙ ap (λ t. t ++ codes "end\n") (hb ∙ ap (λ t. t ++ bound_text input cert.bound) ha) ∙ append_assoc (opening_text input cert) (bound_text input cert.bound) (codes "end\n") ∙ sym e

four : (o a b c d : List ℕ) → (((o ++ a) ++ b) ++ c) ++ d ≡ o ++ (a ++ (b ++ (c ++ (d ++ []))))
four o a b c d = simp (append_assoc, append-nil)

pub opening_printed : (input : InputLists) (cert : Cert) (o t a b c d : List ℕ) → t ≡ o ++ cert_title input → a ≡ t ++ 10 ∷ []
    → b ≡ a ++ (words (codes "rounds" ∷ decimal cert.rounds ∷ []) ++ 10 ∷ [])
    → c ≡ b ++ (words (codes "quotient" ∷ decimal cert.quotient ∷ []) ++ 10 ∷ [])
    → d ≡ c ++ (words (codes "class" ∷ class_word cert.class ∷ []) ++ 10 ∷ []) → d ≡ o ++ opening_text input cert
opening_printed input cert o t a b c d ht ha hb hc hd =
    let first : a ≡ o ++ (cert_title input ++ 10 ∷ []) = ha ∙ ap (λ s. s ++ 10 ∷ []) ht ∙ append_assoc o (cert_title input) (10 ∷ []) in
    let r : List ℕ = words (codes "rounds" ∷ decimal cert.rounds ∷ []) ++ 10 ∷ [] in
    let q : List ℕ = words (codes "quotient" ∷ decimal cert.quotient ∷ []) ++ 10 ∷ [] in
    let k : List ℕ = words (codes "class" ∷ class_word cert.class ∷ []) ++ 10 ∷ [] in
    hd ∙ ap (λ t. t ++ k) (hc ∙ ap (λ t. t ++ q) (hb ∙ ap (λ t. t ++ r) first)) ∙ four o (cert_title input ++ 10 ∷ []) r q k
