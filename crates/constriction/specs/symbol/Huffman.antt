-- Huffman trees: the tree that merging the weights gives, and its codewords.
pub use Rattle.constriction_symbol.specs.Huffman.{Tree, Leaf, Node, Weighed, comes_before, put_in, leaves_from, united, merged, merge, prefixed, or_else, path, huffman, Book, IsHuffman, book_of, leaves, symbols_from, subtree, ReadsOnIn}
