-- The check is linear, so that a byte at a time by the table is the same as bit by bit. Assumes nothing.
use Rattle.std.proofs.Common.{◌≡◌, ℕ, zero, suc, ◌*◌, ◌/◌, ◌%◌, ◌^◌, ◌<◌, cond, eqb, sym, refl, ap, ◌∙◌, div-one, one-add, arith}
use lib.Bits.{bit_xor, xor_assoc, xor_comm, xor_mod, xor_shr, xor_shifted, xor_zero_r, shifted_half, shifted_even}
use Rattle.std.proofs.lemmas.Nat.{shr-shr, shr_split, shl-shr, mod_below, xor_lt}
use Rattle.frame_check.specs.Register.{bit_step, bit_steps, byte_step, entry_of}

turn : (h k m : ℕ) → bit_xor (bit_xor h k) m ≡ bit_xor (bit_xor h m) k
turn h k m = xor_assoc h k m ∙ ap (bit_xor h) (xor_comm k m) ∙ sym (xor_assoc h m k)

core : (p q h k : ℕ) → p < 2 → q < 2 → cond (eqb (bit_xor p q) 0) (bit_xor h k) (bit_xor (bit_xor h k) 0x8408) ≡ bit_xor (cond (eqb p q) h (bit_xor h 0x8408)) k
core zero zero h k a b = refl
core zero (suc zero) h k a b = turn h k 0x8408
core (suc zero) zero h k a b = turn h k 0x8408
core (suc zero) (suc zero) h k a b = refl
core zero (suc (suc q)) h k a b = absurd (omega arith)
core (suc zero) (suc (suc q)) h k a b = absurd (omega arith)
core (suc (suc p)) q h k a b = absurd (omega arith)

-- one bit
bit_step_xor : (x b : ℕ) → bit_step (bit_xor x b) 0 ≡ bit_xor (bit_step x (b % 2)) (b / 2)
unfolding bit_step
bit_step_xor x b =
    rw (xor_mod x b 1, xor_shr x b 1) (core (x % 2) (b % 2) (x / 2) (b / 2) (mod_below x 2 (omega arith)) (mod_below b 2 (omega arith)))

-- n bits
bits_xor : (n x b : ℕ) → bit_steps n (bit_xor x b) 0 ≡ bit_xor (bit_steps n x b) (b / 2 ^ n)
unfolding bit_steps
bits_xor zero x b = ap (bit_xor x) (sym (div-one b))
bits_xor (suc n) x b =
    ap (λ y. bit_steps n y 0) (bit_step_xor x b) ∙ bits_xor n (bit_step x (b % 2)) (b / 2) ∙ ap (bit_xor (bit_steps n (bit_step x (b % 2)) (b / 2))) (shr-shr b 1 n ∙ ap (λ k. b / 2 ^ k) (one-add n))

-- only the low n bits of the data count
bits_high : (n x h : ℕ) → bit_steps n x (h * 2 ^ n) ≡ bit_steps n x 0
unfolding bit_steps
bits_high zero x h = refl
bits_high (suc n) x h = rw (shifted_even h n, shifted_half h n) (bits_high n (bit_step x 0) h)

split : (x : ℕ) → bit_xor (x % 256) (x / 256 * 256) ≡ x
split x = xor_comm (x % 256) (x / 256 * 256) ∙ xor_shifted (x / 256) 8 (x % 256) (mod_below x 256 (omega arith)) ∙ shr_split x 8

whole : (x : ℕ) → bit_steps 8 x 0 ≡ bit_xor (x / 256) (entry_of (x % 256))
unfolding entry_of
whole x =
    ap (λ y. bit_steps 8 y 0) (sym (split x)) ∙ bits_xor 8 (x % 256) (x / 256 * 256) ∙ ap (λ y. bit_xor y (x / 256 * 256 / 256)) (bits_high 8 (x % 256) (x / 256)) ∙ ap (bit_xor (bit_steps 8 (x % 256) 0)) (shl-shr (x / 256) 8) ∙ xor_comm (bit_steps 8 (x % 256) 0) (x / 256)

-- a byte
pub by_table : (reg b : ℕ) → b < 256 → byte_step reg b ≡ bit_xor (bit_xor reg b / 256) (entry_of (bit_xor reg b % 256))
unfolding byte_step
by_table reg b lt =
    let none : b / 256 ≡ 0 = omega arith in
    sym (xor_zero_r (bit_steps 8 reg b)) ∙ ap (bit_xor (bit_steps 8 reg b)) (sym none) ∙ sym (bits_xor 8 reg b) ∙ whole (bit_xor reg b)

-- the same of a register of 16 bits, which is mixed and taken apart into its two bytes
pub by_table_of_bytes : (reg b : ℕ) → reg < 65536 → b < 256 → byte_step reg b ≡ bit_xor (bit_xor reg b / 256 % 256) (entry_of (bit_xor reg b % 256))
by_table_of_bytes reg b wide lt =
    let fits : bit_xor reg b < 2 ^ 16 = xor_lt 16 reg b wide (omega arith) in
    let high : bit_xor reg b / 256 % 256 ≡ bit_xor reg b / 256 = omega arith in
    rw high (by_table reg b lt)
