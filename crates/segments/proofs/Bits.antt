-- The bit at a position of a field sync, part by part.
use Rattle.std.proofs.Common.{◌≡◌, ℕ, ◌-◌, ◌<◌, ◌≤◌, Bool, false, List, get_or, arith}
use Rattle.std.proofs.lemmas.Bool.Decides.{nat_tests}
use Rattle.segments.specs.Pn.{pn511, pn63}
use Rattle.segments.specs.Segment.{segment_sync, differ, sync_bit, field_bit}

module _ (sync : List ℕ) (second : Bool) (p : ℕ) where
  -- the sync symbols
  pub in_sync : p < 4 → field_bit sync second p ≡ get_or segment_sync p false
  unfolding field_bit
  in_sync h = grind (arith, nat_tests)

  -- PN511
  pub in_pn511 : 4 ≤ p → p < 515 → field_bit sync second p ≡ pn511 (p - 4)
  unfolding field_bit
  in_pn511 g h = grind (arith, nat_tests)

  -- the first PN63
  pub in_first : 515 ≤ p → p < 578 → field_bit sync second p ≡ pn63 (p - 515)
  unfolding field_bit
  in_first g h = grind (arith, nat_tests)

  -- the second PN63, inverted in the second field
  pub in_second : 578 ≤ p → p < 641 → field_bit sync second p ≡ differ second (pn63 (p - 578))
  unfolding field_bit
  in_second g h = grind (arith, nat_tests)

  -- the third PN63
  pub in_third : 641 ≤ p → p < 704 → field_bit sync second p ≡ pn63 (p - 641)
  unfolding field_bit
  in_third g h = grind (arith, nat_tests)

  -- the sync data
  pub in_data : 704 ≤ p → field_bit sync second p ≡ sync_bit sync (p - 704)
  unfolding field_bit
  in_data g = grind (arith, nat_tests)
