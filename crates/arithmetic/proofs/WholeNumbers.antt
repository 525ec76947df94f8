-- Laws of the whole numbers ℤ that the library lacks: a sum or a difference times a factor, and the product's brackets. Assumes nothing.
use mathlib.Core.Path.{◌≡◌, refl, sym, ◌∙◌, ap}
use Prim.Native.Nat.{zero, suc}
use lib.IntN.{ℤ, pos, negsuc, suc_ℤ, pred_ℤ, neg_ℤ, ◌+ℤ◌, ◌-ℤ◌, ◌*ℤ◌, +ℤ_assoc, +ℤ_comm, +ℤ_idl}
use lib.IntN.{+ℤ-neg_ℤ_cancel, -ℤ-+ℤ_cancel, suc_ℤ-+ℤ, pred_ℤ-+ℤ, suc_ℤ-*ℤ, pred_ℤ-*ℤ, zero-*ℤ, *ℤ_comm}

-- what holds of 0, and of the next number up and down from each, holds of all
by_steps : (P : ℤ → Type 0) → P (pos 0) → ((a : ℤ) → P a → P (suc_ℤ a)) → ((a : ℤ) → P a → P (pred_ℤ a)) → (a : ℤ) → P a
by_steps P z s p (pos zero) = z
by_steps P z s p (pos (suc n)) = s (pos n) (by_steps P z s p (pos n))
by_steps P z s p (negsuc zero) = p (pos 0) z
by_steps P z s p (negsuc (suc n)) = p (negsuc n) (by_steps P z s p (negsuc n))

pub swap_last : (a b c : ℤ) → a +ℤ b +ℤ c ≡ a +ℤ c +ℤ b
swap_last a b c = +ℤ_assoc a b c ∙ ap (λ t. a +ℤ t) (+ℤ_comm b c) ∙ sym (+ℤ_assoc a c b)

pub sum_times : (a b k : ℤ) → (a +ℤ b) *ℤ k ≡ a *ℤ k +ℤ b *ℤ k
sum_times a b k =
    by_steps
    (λ a. (a +ℤ b) *ℤ k ≡ a *ℤ k +ℤ b *ℤ k)
    (rw (+ℤ_idl b, zero-*ℤ k, +ℤ_idl (b *ℤ k)) refl)
    (λ a e. rw (suc_ℤ-+ℤ a b, suc_ℤ-*ℤ (a +ℤ b) k, suc_ℤ-*ℤ a k, e) (swap_last (a *ℤ k) (b *ℤ k) k))
    (λ a e. rw (pred_ℤ-+ℤ a b, pred_ℤ-*ℤ (a +ℤ b) k, pred_ℤ-*ℤ a k, e) (swap_last (a *ℤ k) (b *ℤ k) (neg_ℤ k)))
    a

pub difference_times : (a b k : ℤ) → (a -ℤ b) *ℤ k ≡ a *ℤ k -ℤ b *ℤ k
difference_times a b k =
    sym (+ℤ-neg_ℤ_cancel ((a -ℤ b) *ℤ k) (b *ℤ k))
    ∙ ap (λ t. t -ℤ b *ℤ k) (sym (sum_times (a -ℤ b) b k) ∙ ap (λ t. t *ℤ k) (-ℤ-+ℤ_cancel a b))

pub times_difference : (k a b : ℤ) → k *ℤ (a -ℤ b) ≡ k *ℤ a -ℤ k *ℤ b
times_difference k a b = *ℤ_comm k (a -ℤ b) ∙ difference_times a b k ∙ rw (*ℤ_comm a k, *ℤ_comm b k) refl

pub times_assoc : (a b c : ℤ) → a *ℤ b *ℤ c ≡ a *ℤ (b *ℤ c)
times_assoc a b c =
    by_steps
    (λ a. a *ℤ b *ℤ c ≡ a *ℤ (b *ℤ c))
    (rw (zero-*ℤ b, zero-*ℤ c, zero-*ℤ (b *ℤ c)) refl)
    (λ a e. rw (suc_ℤ-*ℤ a b, suc_ℤ-*ℤ a (b *ℤ c), sum_times (a *ℤ b) b c, e) refl)
    (λ a e. rw (pred_ℤ-*ℤ a b, pred_ℤ-*ℤ a (b *ℤ c), difference_times (a *ℤ b) b c, e) refl)
    a
