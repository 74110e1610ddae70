-- Worked cases, by computing: loads, quotients, classes and values; a plan's layouts and texts.
use Rattle.mig_base.proofs.Common.{At, Disk, Duplex, Even, General, Incoming, InputLists, Joint, List, None, OfDisk, OfSet, OfSide, Outgoing, Shift, Some, Split, Spot, Transfers, Transfer, []}
use Rattle.mig_base.proofs.Common.{bound_lines, cert_lines, class_of, codes, incoming, layout_lines, length, load, moves, plan_lines, present, quotient, refl, round_of, set_value}
use Rattle.std.specs.Fmt.{digits}
use Rattle.mig_base.proofs.Common.{shift_count, text_of_lines, transfer_graph, ℕ, ◌+◌, ◌∷◌, ◌≡◌}

abbrev disk : ℕ → Disk
disk n = record { name = 97 ∷ []; limits = Joint n; slots = 9 }

abbrev transfer : ℕ → ℕ → Transfer
transfer a b = record { leaves = a; reaches = b }

abbrev triangle : ℕ → Transfers
triangle n = record { disks = disk n ∷ disk n ∷ disk n ∷ []; items = 0 ∷ 1 ∷ 2 ∷ []; transfers = transfer 0 1 ∷ transfer 1 2 ∷ transfer 2 0 ∷ [] }

value_of_triangle : set_value (triangle 1) (0 ∷ 1 ∷ 2 ∷ []) ≡ 3
value_of_triangle = refl

quotient_of_triangle : quotient (triangle 1) ≡ 2
quotient_of_triangle = refl

quotient_of_even_triangle : quotient (triangle 2) ≡ 1
quotient_of_even_triangle = refl

abbrev cycle : Transfers
cycle = record { disks = disk 1 ∷ disk 1 ∷ disk 1 ∷ disk 1 ∷ disk 1 ∷ []; items = []; transfers = transfer 0 1 ∷ transfer 1 2 ∷ transfer 2 3 ∷ transfer 3 4 ∷ transfer 4 0 ∷ [] }

value_of_cycle : set_value cycle (0 ∷ 1 ∷ 2 ∷ 3 ∷ 4 ∷ []) ≡ 3
value_of_cycle = refl

value_of_triple : set_value cycle (0 ∷ 1 ∷ 2 ∷ []) ≡ 2
value_of_triple = refl

abbrev star : Transfers
star = record { disks = disk 4 ∷ disk 1 ∷ disk 1 ∷ disk 1 ∷ disk 7 ∷ []; items = []; transfers = transfer 0 1 ∷ transfer 0 1 ∷ transfer 0 1 ∷ transfer 0 2 ∷ transfer 0 2 ∷ transfer 0 2 ∷ transfer 0 3 ∷ transfer 0 3 ∷ transfer 0 3 ∷ [] }

quotient_of_star : quotient star ≡ 3
quotient_of_star = refl

load_of_centre : load 0 star.transfers ≡ 9
load_of_centre = refl

class_of_triangle : class_of (triangle 1) ≡ General
class_of_triangle = refl

class_of_even_triangle : class_of (triangle 2) ≡ Even
class_of_even_triangle = refl

class_of_star : class_of star ≡ General
class_of_star = refl

-- three items go from a to b, which keep their slots

abbrev name : ℕ → List ℕ
name c = c ∷ []

abbrev spot : ℕ → ℕ → Spot
spot d s = record { disk = record { 0 = d }; slot = s }

abbrev two : InputLists
two = record {
  disks = record { name = name 97; limits = Joint 2; slots = 4 } ∷ record { name = name 98; limits = Joint 2; slots = 4 } ∷ [];
  items = name 120 ∷ name 121 ∷ name 122 ∷ [];
  spots = spot 0 0 ∷ spot 0 1 ∷ spot 0 2 ∷ [];
  next = record { 0 = 1 } ∷ record { 0 = 1 } ∷ record { 0 = 1 } ∷ [];
}

abbrev move : ℕ → Shift
move i = record { item = record { 0 = i }; from = spot 0 i; to = spot 1 i }

abbrev two_rounds : List (List Shift)
two_rounds = (move 0 ∷ move 1 ∷ []) ∷ (move 2 ∷ []) ∷ []

relocated_items : moves two ≡ 0 ∷ 1 ∷ 2 ∷ []
relocated_items = refl

room_of_b : present two 1 + incoming two 1 ≡ 3
room_of_b = refl

quotient_of_two : quotient (transfer_graph two) ≡ 2
quotient_of_two = refl

class_of_two : class_of (transfer_graph two) ≡ Even
class_of_two = refl

after_one_round : At two two_rounds 1 1 ≡ Some (spot 1 1)
after_one_round = refl

still_there : At two two_rounds 1 2 ≡ Some (spot 0 2)
still_there = refl

no_such_item : At two two_rounds 2 3 ≡ None
no_such_item = refl

shifts_of_x : shift_count two_rounds 0 ≡ 1
shifts_of_x = refl

round_of_z : round_of two_rounds 2 ≡ 2
round_of_z = refl

-- the text that tells these two rounds
text_of_two : text_of_lines (plan_lines two two_rounds)
    ≡ codes "migration-plan 1\nrounds 2\nround 1 2\nx a 0 b 0\ny a 1 b 1\nround 2 1\nz a 2 b 2\nend\n"
unfolding digits
text_of_two = refl

bytes_of_two : length (text_of_lines (plan_lines two two_rounds)) ≡ 80
unfolding digits
bytes_of_two = refl

text_of_cert : text_of_lines (cert_lines two (record { rounds = 2; quotient = 2; class = Even; bound = OfDisk (record { 0 = 0 }) 3 2 }))
    ≡ codes "migration-certificate 1\nrounds 2\nquotient 2\nclass even\nbound disk a 3 2 2\nend\n"
unfolding digits
text_of_cert = refl

text_of_set : text_of_lines (bound_lines two (OfSet (record { 0 = 0 } ∷ record { 0 = 1 } ∷ []) 3 3)) ≡ codes "bound set 2 3 3\na\nb\n"
unfolding digits
text_of_set = refl

text_of_layout : text_of_lines (layout_lines two (spot 1 0 ∷ spot 1 1 ∷ spot 0 2 ∷ [])) ≡ codes "item,disk,slot\nx,b,0\ny,b,1\nz,a,2\n"
unfolding digits
text_of_layout = refl

-- the same three items between disks with two limits

abbrev duplex : InputLists
duplex = record {
  disks = record { name = name 97; limits = Split 2 1; slots = 4 } ∷ record { name = name 98; limits = Split 1 1; slots = 4 } ∷ [];
  items = two.items;
  spots = two.spots;
  next = two.next;
}

quotient_of_duplex : quotient (transfer_graph duplex) ≡ 3
quotient_of_duplex = refl

class_of_duplex : class_of (transfer_graph duplex) ≡ Duplex
class_of_duplex = refl

text_of_duplex : text_of_lines (cert_lines duplex (record { rounds = 3; quotient = 3; class = Duplex; bound = OfSide (record { 0 = 1 }) Incoming 3 3 }))
    ≡ codes "migration-certificate 2\nrounds 3\nquotient 3\nclass duplex\nbound side b in 3 1 3\nend\n"
unfolding digits
text_of_duplex = refl

text_of_out : text_of_lines (bound_lines duplex (OfSide (record { 0 = 0 }) Outgoing 3 2)) ≡ codes "bound side a out 3 2 2\n"
unfolding digits
text_of_out = refl
