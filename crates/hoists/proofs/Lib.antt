mod LowestBit
