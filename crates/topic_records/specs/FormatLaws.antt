-- The digits of a writer as the code meets them.
use Rattle.std.specs.Prelude.{◌≡◌, refl, List, [], ◌∷◌, ℕ, zero, suc, ◌/◌, ◌%◌, ◌<◌, get_or, map}
use Rattle.std.proofs.Common.{◌∙◌, ap, arith}
use Rattle.std.specs.Char.{to_ascii_lowercase}
use Rattle.hex.specs.Hex.{lower_digits, encode_with, encode_lower}
use Rattle.topic_records.specs.Format.{digit_of, hex_text}

digit-is : (n : ℕ) → n < 16 → get_or lower_digits n 0 ≡ digit_of n
unfolding digit_of
digit-is zero h = refl
digit-is (suc zero) h = refl
digit-is (suc (suc zero)) h = refl
digit-is (suc (suc (suc zero))) h = refl
digit-is (suc (suc (suc (suc zero)))) h = refl
digit-is (suc (suc (suc (suc (suc zero))))) h = refl
digit-is (suc (suc (suc (suc (suc (suc zero)))))) h = refl
digit-is (suc (suc (suc (suc (suc (suc (suc zero))))))) h = refl
digit-is (suc (suc (suc (suc (suc (suc (suc (suc zero)))))))) h = refl
digit-is (suc (suc (suc (suc (suc (suc (suc (suc (suc zero))))))))) h = refl
digit-is (suc (suc (suc (suc (suc (suc (suc (suc (suc (suc zero)))))))))) h = refl
digit-is (suc (suc (suc (suc (suc (suc (suc (suc (suc (suc (suc zero))))))))))) h = refl
digit-is (suc (suc (suc (suc (suc (suc (suc (suc (suc (suc (suc (suc zero)))))))))))) h = refl
digit-is (suc (suc (suc (suc (suc (suc (suc (suc (suc (suc (suc (suc (suc zero))))))))))))) h = refl
digit-is (suc (suc (suc (suc (suc (suc (suc (suc (suc (suc (suc (suc (suc (suc zero)))))))))))))) h = refl
digit-is (suc (suc (suc (suc (suc (suc (suc (suc (suc (suc (suc (suc (suc (suc (suc zero))))))))))))))) h = refl
digit-is (suc (suc (suc (suc (suc (suc (suc (suc (suc (suc (suc (suc (suc (suc (suc (suc n)))))))))))))))) h = absurd (omega (arith, h))

pub hex-is : (w : List ℕ) → ((i : ℕ) → get_or w i 0 < 256) → encode_lower w ≡ hex_text w
unfolding encode_with hex_text
hex-is [] h = refl
hex-is (b ∷ w) h =
    let low : b < 256 = h 0 in
    rw (digit-is (b / 16) (omega arith), digit-is (b % 16) (omega arith), hex-is w (λ i. h (suc i)))

-- The letters are low ones: lowering them changes nothing.
low-digit : (n : ℕ) → n < 16 → to_ascii_lowercase (digit_of n) ≡ digit_of n
unfolding digit_of
low-digit zero h = refl
low-digit (suc zero) h = refl
low-digit (suc (suc zero)) h = refl
low-digit (suc (suc (suc zero))) h = refl
low-digit (suc (suc (suc (suc zero)))) h = refl
low-digit (suc (suc (suc (suc (suc zero))))) h = refl
low-digit (suc (suc (suc (suc (suc (suc zero)))))) h = refl
low-digit (suc (suc (suc (suc (suc (suc (suc zero))))))) h = refl
low-digit (suc (suc (suc (suc (suc (suc (suc (suc zero)))))))) h = refl
low-digit (suc (suc (suc (suc (suc (suc (suc (suc (suc zero))))))))) h = refl
low-digit (suc (suc (suc (suc (suc (suc (suc (suc (suc (suc zero)))))))))) h = refl
low-digit (suc (suc (suc (suc (suc (suc (suc (suc (suc (suc (suc zero))))))))))) h = refl
low-digit (suc (suc (suc (suc (suc (suc (suc (suc (suc (suc (suc (suc zero)))))))))))) h = refl
low-digit (suc (suc (suc (suc (suc (suc (suc (suc (suc (suc (suc (suc (suc zero))))))))))))) h = refl
low-digit (suc (suc (suc (suc (suc (suc (suc (suc (suc (suc (suc (suc (suc (suc zero)))))))))))))) h = refl
low-digit (suc (suc (suc (suc (suc (suc (suc (suc (suc (suc (suc (suc (suc (suc (suc zero))))))))))))))) h = refl
low-digit (suc (suc (suc (suc (suc (suc (suc (suc (suc (suc (suc (suc (suc (suc (suc (suc n)))))))))))))))) h = absurd (omega (arith, h))

lowered : (w : List ℕ) → ((i : ℕ) → get_or w i 0 < 256) → map to_ascii_lowercase (hex_text w) ≡ hex_text w
unfolding hex_text
lowered [] h = refl
lowered (b ∷ w) h =
    let low : b < 256 = h 0 in
    rw (low-digit (b / 16) (omega arith), low-digit (b % 16) (omega arith), lowered w (λ i. h (suc i)))

pub hex-low : (w ws : List ℕ) → ((i : ℕ) → get_or w i 0 < 256) → ws ≡ hex_text w → map to_ascii_lowercase ws ≡ hex_text w
hex-low w ws h e = ap (map to_ascii_lowercase) e ∙ lowered w h
