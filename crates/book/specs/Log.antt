-- Lists whose newest element stands last, as entries and histories grow.
use Rattle.std.specs.Prelude.{ℕ, suc}

infixl 50 ◌▸◌
infixl 50 ◌⧺◌
pub data Log (A : Type 0) : Type 0 where
  none : Log A
  ◌▸◌ : Log A → A → Log A

-- how many there are
unfoldable pub count : {A : Type 0} → Log A → ℕ
count none = 0
count (h ▸ e) = suc (count h)

-- one list and then another
unfoldable pub ◌⧺◌ : {A : Type 0} → Log A → Log A → Log A
◌⧺◌ h none = h
◌⧺◌ h (k ▸ e) = (h ⧺ k) ▸ e
