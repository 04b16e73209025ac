mod TermBounds
