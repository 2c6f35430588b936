-- The laws of the field of bytes, as one set of equations.
use Rattle.std.proofs.Common.{◌≡◌}
use Rattle.moments.proofs.Moments as M
use Rattle.rows.proofs.Bytes.{Byte, add, mul, nil, one, laws}

-- sums, and a + a = 0
pub add_assoc : (a b c : Byte) → add (add a b) c ≡ add a (add b c)
add_assoc = laws.add_assoc

pub add_comm : (a b : Byte) → add a b ≡ add b a
add_comm = laws.add_comm

pub add_left : (a b c : Byte) → add a (add b c) ≡ add b (add a c)
add_left = M.add_left Byte add mul nil one laws

pub add_self : (a : Byte) → add a a ≡ nil
add_self = laws.add_self

pub add_twice : (a b : Byte) → add a (add a b) ≡ b
add_twice = M.add_twice Byte add mul nil one laws

pub nil_add : (a : Byte) → add nil a ≡ a
nil_add = laws.nil_add

pub add_nil : (a : Byte) → add a nil ≡ a
add_nil = M.add_nil Byte add mul nil one laws

-- products
pub mul_assoc : (a b c : Byte) → mul (mul a b) c ≡ mul a (mul b c)
mul_assoc = laws.mul_assoc

pub mul_comm : (a b : Byte) → mul a b ≡ mul b a
mul_comm = laws.mul_comm

pub mul_left : (a b c : Byte) → mul a (mul b c) ≡ mul b (mul a c)
mul_left = M.mul_left Byte add mul nil one laws

pub one_mul : (a : Byte) → mul one a ≡ a
one_mul = laws.one_mul

pub mul_one : (a : Byte) → mul a one ≡ a
mul_one = M.mul_one Byte add mul nil one laws

pub nil_mul : (a : Byte) → mul nil a ≡ nil
nil_mul = M.nil_mul Byte add mul nil one laws

pub mul_nil : (a : Byte) → mul a nil ≡ nil
mul_nil = M.mul_nil Byte add mul nil one laws

-- products of sums
pub mul_add : (a b c : Byte) → mul a (add b c) ≡ add (mul a b) (mul a c)
mul_add = laws.mul_add

pub add_mul : (a b c : Byte) → mul (add a b) c ≡ add (mul a c) (mul b c)
add_mul = M.add_mul Byte add mul nil one laws

-- all of them
pub ruleset ring = (mul_add, add_mul, mul_assoc, mul_comm, mul_left, one_mul, mul_one, nil_mul, mul_nil, add_assoc, add_comm, add_left, add_self, add_twice, nil_add, add_nil)

-- a = b where a + b = 0
pub same : (a b : Byte) → add a b ≡ nil → a ≡ b
same = M.same Byte add mul nil one laws
