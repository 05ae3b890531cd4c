-- Choices whose test is known.
use Rattle.std.proofs.Common.{◌≡◌, Bool, true, false, if◌then◌else◌, ap, sym}

pub if_true : {X : Type 0} {t : Bool} (x y : X) → t ≡ true → x ≡ (if t then x else y)
if_true {X} {t} x y e = sym (ap (λ (t : Bool). if t then x else y) e)

pub if_false : {X : Type 0} {t : Bool} (x y : X) → t ≡ false → y ≡ (if t then x else y)
if_false {X} {t} x y e = sym (ap (λ (t : Bool). if t then x else y) e)
