mod Between
