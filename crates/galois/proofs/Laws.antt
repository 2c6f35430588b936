-- The laws of the field, as other crates import them.
pub use Rattle.galois.proofs.Linear.{mul_xor_left, mul_xor_right}
pub use Rattle.galois.proofs.Product.{mul_lt, mul_one, mul_zero_right, mul_zero_left, mul_comm, mul_assoc, mul_mod}
pub use Rattle.galois.proofs.Powers.{power_lt, two_power_lt, two_power_distinct, two_power_ne_zero, two_power_add, two_power_255, gf_inverse, gf_inverse_lt, mul_inverse}
use Rattle.galois.specs.Laws.{FieldLaws}
use Rattle.galois.proofs.Powers.{log, log_lt, two_power_log, no_zero_divisors}

pub field_laws : FieldLaws
field_laws =
    record {
      closed = λ a b ha hb. mul_lt a b ha;
      commutative = mul_comm;
      associative = mul_assoc;
      distributive = mul_xor_right;
      one_neutral = mul_one;
      invertible = λ a p h. (gf_inverse a, gf_inverse_lt a, mul_inverse a p h);
      no_zero_divisors = no_zero_divisors;
      powers_distinct = two_power_distinct;
      powers_all = λ a p h. (log a, log_lt a p h, two_power_log a p h);
    }
